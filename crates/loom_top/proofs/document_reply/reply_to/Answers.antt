use Rattle.std.proofs.Common.{ap, sym, ◌∙◌}
use Rattle.std.proofs.lemmas.Result.{IfOk-weaker}
use Rattle.loom_reader.specs.Document.{document_of}
use Rattle.loom_top.proofs.Documents.{bytes_refused, refuses_no_json, refuses_shape, refuses_project, refuses_limit}
use Rattle.loom_top.specs.declared.refusal.Refusal.TheVariants.{NotJson, WrongShape, Project, Limit}
use Rattle.loom_top.proofs.document_reply.reply_to.Goals as goal

pub returns-in-Ok : goal.returns-in-Ok
returns-in-Ok g c =
    IfOk-weaker c.answered.result _ _
    (λ reply told. told c.args.input.now (record {
      short = c.requires.short;
      document_is = ap (λ w. document_of w c.args.input.now) (sym c.want.ensures) ∙ c.in-Ok.ensures.gives;
    })) c.answered.ensures

pub returns-in-Err-NotJson : goal.returns-in-Err-NotJson
returns-in-Err-NotJson g c =
    bytes_refused _ c.args.job c.args.input.now NotJson c.refused.result
    (refuses_no_json c.args.job c.want.result c.args.input.now c.in-Err-NotJson.field-0 c.want.ensures c.requires.short c.in-Err-NotJson.field-0-is c.in-Err-NotJson.ensures.gives)
    c.refused.ensures.kind c.refused.ensures.line

pub returns-in-Err-WrongShape : goal.returns-in-Err-WrongShape
returns-in-Err-WrongShape g c =
    bytes_refused _ c.args.job c.args.input.now (WrongShape c.in-Err-WrongShape.path) c.refused-in-Err-WrongShape.result
    (refuses_shape c.args.job c.want.result c.args.input.now c.in-Err-WrongShape.path c.in-Err-WrongShape.field-0 c.want.ensures c.requires.short c.in-Err-WrongShape.field-0-is c.in-Err-WrongShape.ensures.gives)
    c.refused-in-Err-WrongShape.ensures.kind (rw c.in-Err-WrongShape.field-0-is at c.refused-in-Err-WrongShape.ensures.line)

pub returns-in-Err-Project : goal.returns-in-Err-Project
returns-in-Err-Project g c =
    bytes_refused _ c.args.job c.args.input.now (Project c.in-Err-Project.fault) c.refused-in-Err-Project.result
    (refuses_project c.args.job c.want.result c.args.input.now c.in-Err-Project.fault c.in-Err-Project.field-0 c.want.ensures c.requires.short c.in-Err-Project.field-0-is c.in-Err-Project.ensures.gives)
    c.refused-in-Err-Project.ensures.kind (rw c.in-Err-Project.field-0-is at c.refused-in-Err-Project.ensures.line)

pub returns-in-Err-Limit : goal.returns-in-Err-Limit
returns-in-Err-Limit g c =
    bytes_refused _ c.args.job c.args.input.now (Limit c.in-Err-Limit.which c.in-Err-Limit.count) c.refused-in-Err-Limit.result
    (refuses_limit c.args.job c.want.result c.args.input.now c.in-Err-Limit.which c.in-Err-Limit.count c.in-Err-Limit.field-0 c.want.ensures c.requires.short c.in-Err-Limit.field-0-is c.in-Err-Limit.ensures.gives)
    c.refused-in-Err-Limit.ensures.kind (rw c.in-Err-Limit.field-0-is at c.refused-in-Err-Limit.ensures.line)
