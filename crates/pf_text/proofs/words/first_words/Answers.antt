use Rattle.std.proofs.Common.{◌≡◌, ◌+◌, ◌-◌, ◌≤◌, ap, length, drop, take, sym, arith, length-drop}
use Rattle.std.proofs.lemmas.List.{take_all}
use Rattle.pf_text.proofs.LineWords.{found_within, words_more, words_all}
use Rattle.pf_text.proofs.words.first_words.Goals as goal

pub overflow_add-rest : goal.overflow_add-rest
overflow_add-rest c = omega (arith, found_within c.loop-at.rest.now c.in-Some.at (sym c.in-Some.ensures), c.loop-at.invariant.less)

pub loop-at-preserved : goal.loop-at-preserved
loop-at-preserved c =
    let rest = c.loop-at.rest.now in
    let at = c.in-Some.at in
    let left : take (length rest - (at + 1)) (drop (at + 1) rest) ≡ drop (at + 1) rest = take_all (length rest - (at + 1)) (drop (at + 1) rest) (omega (arith, length-drop (at + 1) rest)) in
    let left_len : length (take (length rest - (at + 1)) (drop (at + 1) rest)) ≤ length rest = omega (arith, ap length left, length-drop (at + 1) rest) in
    record {
      words = words_more _ _ _ rest _ at c.loop-at.invariant.words (sym c.in-Some.ensures) c.put_word.ensures.words left;
      room = c.put_word.ensures.room;
      less = omega (arith, c.loop-at.invariant.less, left_len);
    }

pub returns : goal.returns
returns c = words_all _ _ _ c.loop-at.rest.now c.loop-at.invariant.words (sym c.in_default.ensures) c.put_word-2.ensures.words
