use Rattle.std.proofs.Common.{◌≡◌, ◌<◌, ◌++◌, ◌∷◌, [], length, arith, ap, ◌∙◌, append_assoc}
use Rattle.std.proofs.lemmas.Bool.Decides.{nat_tests}
use Rattle.pf_text.specs.Runs.{runs_text, stretch_text}
use Rattle.pf_text.proofs.ZeroRuns.{both_text, no_bytes, zeros_run, zeros_text}
use Rattle.pf_text.proofs.zeros.text_of_both.Goals as goal
use Rattle.pf_text.proofs.zeros.text_of_both.Goals.{then-not-is_empty+in_ok-put_runs+in_ok-put_text, else-not-is_empty}

pub returns : goal.returns
returns c =
    let bytes = c.args.bytes.now in
    let last = stretch_text (zeros_run c.args.zeros) in
    elim c.if-not-is_empty.branch [
      | then-not-is_empty+in_ok-put_runs+in_ok-put_text w ↦
          let some : 0 < length bytes = grind (arith, nat_tests) in
          c.in_ok-put_zeros.ensures ∙ ap (λ v. v.items ++ last) w.text-is
          ∙ ap (λ xs. xs ++ last) (w.in_ok-put_text.ensures.ok ∙ ap (λ xs. xs ++ 32 ∷ []) (w.in_ok-put_runs.ensures.ok ∙ ap (λ xs. xs ++ runs_text bytes) c.new-text.ensures.items))
          ∙ append_assoc (runs_text bytes) (32 ∷ []) last
          ∙ both_text bytes c.args.zeros c.requires.some c.requires.apart some
      | else-not-is_empty w ↦
          let none : length bytes ≡ 0 = grind (arith, nat_tests) in
          c.in_ok-put_zeros.ensures ∙ ap (λ v. v.items ++ last) w.text-is
          ∙ ap (λ xs. xs ++ last) c.new-text.ensures.items
          ∙ zeros_text bytes c.args.zeros c.requires.some (no_bytes bytes none)
    ]
