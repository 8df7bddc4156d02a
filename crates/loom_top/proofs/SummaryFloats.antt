-- What is printed of a trial's plan has no float.
use Rattle.std.proofs.Common.{◌≡◌, ℕ, false, List, length, codes, refl, ap, ◌∙◌}
use Rattle.serde_json.specs.Data.{Data, Members, put, no_members}
use Rattle.serde_json.specs.Written.{has_float, members_have_float}
use Rattle.loom_json.proofs.Floats.{members_have_float-put}
use Rattle.loom_project.specs.declared.draft.Draft.{Draft}
use Rattle.loom_types.specs.declared.plan.Plan.{Plan}
use Rattle.loom_answer.specs.Values.{whole}
use Rattle.loom_top.specs.Entries.{cost_of}
use Rattle.loom_top.specs.Trials.{steps_of, summary_shown}

-- one more whole number makes none
adds_none : (key : List ℕ) (number : ℕ) (members : Members) → members_have_float members ≡ false
    → members_have_float (put key (whole number) members) ≡ false
adds_none key number members none = members_have_float-put key (whole number) members refl none

pub summary_plain : (d : Data) (trial : ℕ) (draft : Draft) (plan : Plan) → d ≡ summary_shown trial draft plan → has_float d ≡ false
summary_plain d trial draft plan is =
    let costs = put (codes "cost") (whole (cost_of plan)) no_members in
    let modules = put (codes "modules") (whole (length plan.modules)) costs in
    let nets = put (codes "nets") (whole (length draft.nets)) modules in
    let pins = put (codes "pins") (whole (length plan.pins)) nets in
    let rows = put (codes "rows") (whole (length plan.rows)) pins in
    let sets = put (codes "sets") (whole (length plan.sets)) rows in
    let steps = put (codes "steps") (whole (steps_of plan)) sets in
    let trials = put (codes "trial") (whole trial) steps in
    let versions = put (codes "version") (whole 1) trials in
    ap has_float is
    ∙ adds_none (codes "wires") (length plan.wires) versions
    (adds_none (codes "version") 1 trials
    (adds_none (codes "trial") trial steps
    (adds_none (codes "steps") (steps_of plan) sets
    (adds_none (codes "sets") (length plan.sets) rows
    (adds_none (codes "rows") (length plan.rows) pins
    (adds_none (codes "pins") (length plan.pins) nets
    (adds_none (codes "nets") (length draft.nets) modules
    (adds_none (codes "modules") (length plan.modules) costs
    (adds_none (codes "cost") (cost_of plan) no_members refl)))))))))
