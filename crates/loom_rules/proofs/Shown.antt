-- A rule that was shown the first wires and is otherwise as it was.
use Rattle.std.proofs.Common.{◌≡◌, ℕ, ◌+◌, ◌<◌, List, [], ◌∷◌, ◌++◌, take, drop, length, get_or, append-nil, sym, ◌∙◌, ap}
use Rattle.std.proofs.lemmas.List.{take_more, take-append-drop}
use Rattle.loom_types.specs.declared.wire.Wire.{Wire}
use Rattle.loom_rules.specs.Judged.{IsFrontOf}

pub record HasShown (kind0 limit0 : ℕ) (wires : List Wire) (i : ℕ) (kind limit : ℕ) (seen : List Wire) : Type 0 where
  pub same_kind : kind ≡ kind0
  pub same_limit : limit ≡ limit0
  pub first : seen ≡ take i wires

-- the next wire was seen
pub shown-more : (wires : List Wire) (i : ℕ) (w : Wire) (seen seen' : List Wire) → i < length wires
    → w ≡ get_or wires i w → seen ≡ take i wires → seen' ≡ seen ++ w ∷ [] → seen' ≡ take (i + 1) wires
shown-more wires i w seen seen' h is e f =
    f ∙ ap (λ (s : List Wire). s ++ w ∷ []) e ∙ ap (λ (v : Wire). take i wires ++ v ∷ []) is ∙ sym (take_more wires i w h)

-- the first wires are a front of them
pub front-take : (wires : List Wire) (i : ℕ) (seen : List Wire) → seen ≡ take i wires → IsFrontOf wires seen
front-take wires i seen e = (drop i wires, sym (ap (λ (s : List Wire). s ++ drop i wires) e ∙ take-append-drop i wires))

pub front-all : (wires seen : List Wire) → seen ≡ wires → IsFrontOf wires seen
front-all wires seen e = ([], sym (append-nil seen ∙ e))
