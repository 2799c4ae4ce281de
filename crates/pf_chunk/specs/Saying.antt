-- The text of an answer.
use Rattle.std.specs.Prelude.{ℕ, List, [], unwrap_or}
use Rattle.pf_protocol.specs.declared.answers.Answer.{Answer}
use Rattle.pf_report.specs.Texts.{answer_text, report_line}

-- Lines of scripts are given no job, and never told that none is free or that a job is stale.
abbrev pub said : Answer → List ℕ
said answer = unwrap_or (answer_text answer) []

abbrev pub answer_line : (number : ℕ) → Answer → List ℕ
answer_line number answer = report_line number (said answer)
