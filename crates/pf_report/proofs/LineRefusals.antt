-- Refusals of lines have texts.
use Rattle.std.proofs.Common.{◌≡◌, ℕ, List, ◌++◌, IfSome, IsSome, refl}
use Rattle.pf_report.specs.declared.refusals.LineRefusal.{LineRefusal}
use Rattle.pf_report.specs.declared.refusals.LineRefusal.TheVariants.{MountsFull, SmallVolume, Mounted, Raw, NoMount, NoAnchors, TooLate, NoSpare, Moving, NoGroup}
use Rattle.pf_report.specs.Refusals.{line_refusal_number, line_refusal_text, refusal_text}
use Rattle.pf_report.specs.Texts.{report_line}

pub line_refusal_said : (refusal : LineRefusal) → IsSome (refusal_text (line_refusal_number refusal))
line_refusal_said MountsFull = refl
line_refusal_said SmallVolume = refl
line_refusal_said Mounted = refl
line_refusal_said Raw = refl
line_refusal_said NoMount = refl
line_refusal_said NoAnchors = refl
line_refusal_said TooLate = refl
line_refusal_said NoSpare = refl
line_refusal_said Moving = refl
line_refusal_said NoGroup = refl

-- the text that was put is that of the refusal
pub line_refusal_put : (refusal : LineRefusal) (line : ℕ) (before after : List ℕ)
    → IfSome (refusal_text (line_refusal_number refusal)) (λ text. after ≡ before ++ report_line line text) → after ≡ before ++ report_line line (line_refusal_text refusal)
line_refusal_put MountsFull line before after put = put
line_refusal_put SmallVolume line before after put = put
line_refusal_put Mounted line before after put = put
line_refusal_put Raw line before after put = put
line_refusal_put NoMount line before after put = put
line_refusal_put NoAnchors line before after put = put
line_refusal_put TooLate line before after put = put
line_refusal_put NoSpare line before after put = put
line_refusal_put Moving line before after put = put
line_refusal_put NoGroup line before after put = put
