use Rattle.std.specs.Prelude.{[], ◌∷◌, map, codes}
use Rattle.serde_json.specs.Data.{Data, object, put, no_members}
use Rattle.loom_rules.specs.declared.finding.Finding.{Finding}
use Rattle.loom_rules.specs.declared.report.Report.{Report}
use Rattle.loom_json.specs.Fields.{array_of}
use Rattle.loom_answer.specs.Values.{whole, numbers}

-- a finding is printed as its three numbers
abbrev pub finding_shown : Finding → Data
finding_shown found = numbers (found.first ∷ found.second ∷ found.third ∷ [])

-- how the report of a design rule is printed
abbrev pub report_shown : Report → Data
report_shown report = object
    (put (codes "limit") (whole report.limit)
    (put (codes "kind") (whole report.kind)
    (put (codes "findings") (array_of (map finding_shown report.findings))
    no_members)))
