-- What a sound draft is, list by list.
use Rattle.std.proofs.Common.{◌≡◌, ℕ, ◌+◌, ◌≤◌, Bool, true, false, length, refl, Ok, Err}
use Rattle.std.proofs.lemmas.Bool.{leb-true}
use Rattle.std.specs.Prelude.{nat_le}
use Rattle.loom_base.specs.declared.limits.Which.{Which}
use Rattle.loom_base.specs.declared.limits.Which.TheVariants as limits
use Rattle.loom_project.specs.declared.draft.Draft.{Draft}
use Rattle.loom_project.specs.declared.fault.ProjectFault.{ProjectFault}
use Rattle.loom_project.specs.declared.fault.ProjectFault.TheVariants.{Limit}
use Rattle.loom_base.specs.First.{Check, ◌>>◌, require}
use Rattle.loom_project.specs.Project.{IsWithinLimits}
use Rattle.loom_project.specs.Draft.{node_names, cavity_names, rule_nodes}
use Rattle.loom_project.specs.Sound.{within_limit, options_check, rules_check, nodes_check, segments_check, cavities_check, nets_check, draft_check}

pub passes_both : {F : Type 0} (a b : Check F) → (a >> b) ≡ Ok tt → (a ≡ Ok tt) × (b ≡ Ok tt)
passes_both (Ok p) b h = (refl, h)
passes_both (Err e) b h = cc

pub required : {F : Type 0} (holds : Bool) (failure : F) → require holds failure ≡ Ok tt → holds ≡ true
required true failure h = refl
required false failure h = cc

pub few : (which : Which) (limit count : ℕ) → within_limit which limit count ≡ Ok tt → count ≤ limit
few which limit count h = leb-true count limit (required (nat_le count limit) (Limit which (limit + 1)) h)

-- each list of a draft passes
pub record Passes (draft : Draft) : Type 0 where
  pub options : options_check draft.options ≡ Ok tt
  pub rules : rules_check draft.options draft.rules ≡ Ok tt
  pub nodes : nodes_check draft.nodes ≡ Ok tt
  pub segments : segments_check draft.nodes draft.segments ≡ Ok tt
  pub cavities : cavities_check (node_names draft.nodes) draft.cavities ≡ Ok tt
  pub nets : nets_check draft.options (cavity_names draft.cavities) (rule_nodes draft.rules) draft.nets ≡ Ok tt

pub passes : (draft : Draft) → draft_check draft ≡ Ok tt → Passes draft
unfolding draft_check
passes draft h =
    let a = passes_both (options_check draft.options) _ h in
    let b = passes_both (rules_check draft.options draft.rules) _ a.1 in
    let c = passes_both (nodes_check draft.nodes) _ b.1 in
    let d = passes_both (segments_check draft.nodes draft.segments) _ c.1 in
    let e = passes_both (cavities_check (node_names draft.nodes) draft.cavities) _ d.1 in
    record { options = a.0; rules = b.0; nodes = c.0; segments = d.0; cavities = e.0; nets = e.1 }

-- a list that passes is within its limit
limited : (which : Which) (limit count : ℕ) (rest : Check ProjectFault) → (within_limit which limit count >> rest) ≡ Ok tt → count ≤ limit
limited which limit count rest h = few which limit count (passes_both (within_limit which limit count) rest h).0

pub within_limits : (draft : Draft) → draft_check draft ≡ Ok tt → IsWithinLimits draft
unfolding options_check rules_check nodes_check segments_check cavities_check nets_check
within_limits draft h =
    let all = passes draft h in
    record {
      few_options = limited limits.Options 512 (length draft.options) _ all.options;
      few_rules = limited limits.Rules 1024 (length draft.rules) _ all.rules;
      few_nodes = limited limits.Nodes 1024 (length draft.nodes) _ all.nodes;
      few_segments = limited limits.Segments 4096 (length draft.segments) _ all.segments;
      few_cavities = limited limits.Cavities 8192 (length draft.cavities) _ all.cavities;
      few_nets = limited limits.Nets 2048 (length draft.nets) _ all.nets;
    }

pub few_nets : (draft : Draft) → draft_check draft ≡ Ok tt → length draft.nets ≤ 2048
few_nets draft h = (within_limits draft h).few_nets

pub few_segments : (draft : Draft) → draft_check draft ≡ Ok tt → length draft.segments ≤ 4096
few_segments draft h = (within_limits draft h).few_segments
