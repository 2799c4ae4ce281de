use Rattle.std.proofs.Common.{◌≡◌, length, ◌∙◌, arith}
use Rattle.std.proofs.lemmas.List.{length-map}
use Rattle.std.proofs.lemmas.Bool.Decides.{nat_tests}
use Rattle.pf_text.proofs.LineWords.{no_room}
use Rattle.pf_text.proofs.words.put_word.Goals as goal

pub returns-then-is_full-clause-words : goal.returns-then-is_full-clause-words
returns-then-is_full-clause-words c =
    let full : length c.args.words.now.items ≡ 8 = grind (arith, nat_tests, c.if-is_full.true, c.is_full.ensures.value) in
    no_room _ _ (length-map _ _ ∙ full)
