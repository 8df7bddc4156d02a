use Rattle.std.proofs.Common.{map, refl, rules}
use Rattle.indexmap.proofs.CallerLemmas.{filter-RetainsPairs}
use Rattle.loom_laid.specs.KeptInside.{kept_of}
use Rattle.loom_laid.proofs.LiveKeys.{is_live, live-keys-stay, kept-among, kept-true}
use Rattle.loom_laid.proofs.kept.Kept.keep_live.Goals as goal

pub returns-clause-keys : goal.returns-clause-keys
returns-clause-keys c =
    live-keys-stay c.args.project.now c.args.nets.now c.in_ok-live.live.keys c.in_ok-live.ensures c.args.self.now (map kept_of c.retain.new.self.entries)
    c.self.inside.entries.entries c.retain.new.self.entries c.self.view_is refl
    (filter-RetainsPairs _ (is_live c.in_ok-live.live.keys) _ (λ k v b w g call. search rules) _ _ c.retain.ensures.filtered)

pub returns-clause-same : goal.returns-clause-same
returns-clause-same c =
    kept-among c.args.project.now c.args.nets.now c.in_ok-live.live.keys c.in_ok-live.ensures c.args.self.now (map kept_of c.retain.new.self.entries)
    c.self.inside.entries.entries c.retain.new.self.entries c.self.view_is refl
    (filter-RetainsPairs _ (is_live c.in_ok-live.live.keys) _ (λ k v b w g call. search rules) _ _ c.retain.ensures.filtered)

pub returns-clause-kept : goal.returns-clause-kept
returns-clause-kept c =
    kept-true c.args.project.now c.args.nets.now c.in_ok-live.live.keys c.in_ok-live.ensures c.args.self.now (map kept_of c.retain.new.self.entries)
    c.self.inside.entries.entries c.retain.new.self.entries c.self.view_is refl
    (filter-RetainsPairs _ (is_live c.in_ok-live.live.keys) _ (λ k v b w g call. search rules) _ _ c.retain.ensures.filtered)
