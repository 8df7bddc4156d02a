use Rattle.std.specs.Prelude.{ℕ, List, [], ◌∷◌, ◌++◌, ◌≡◌}
use Rattle.loom_types.specs.declared.wire.Wire.{Wire}
use Rattle.loom_rules.specs.declared.report.Report.{Report}
use Rattle.loom_rules.specs.Findings.{AreFindings}

-- what is asked of a rule
pub record Asked : Type 0 where
  pub kind : ℕ
  pub limit : ℕ

-- each rule with the limit at its place; past the last limit a rule keeps its own
abbrev pub asked : List ℕ → List Asked → List Asked
asked limits [] = []
asked [] (rule ∷ rules) = rule ∷ rules
asked (limit ∷ limits) (rule ∷ rules) = record { kind = rule.kind; limit = limit } ∷ asked limits rules

-- the report on what is asked: its kind, its limit and what is found over the wires
pub record IsReportOf (wires : List Wire) (rule : Asked) (report : Report) : Type 0 where
  pub kind : report.kind ≡ rule.kind
  pub limit : report.limit ≡ rule.limit
  pub findings : AreFindings rule.kind rule.limit wires report.findings

-- the wires that a rule has seen are the first of these
abbrev pub IsFrontOf : List Wire → List Wire → Type 0
IsFrontOf wires seen = (rest : List Wire) × (wires ≡ seen ++ rest)
