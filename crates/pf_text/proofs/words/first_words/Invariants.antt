use Rattle.std.proofs.Common.{◌≡◌, ◌≤◌, ◌++◌, length, map, take}
use Rattle.pf_text.specs.Words.{words_of}
use Rattle.pf_text.proofs.words.first_words.Given as goal

abbrev pub invariant-loop-at : goal.invariant-loop-at
invariant-loop-at l = record {
  words : take 8 (map (λ word. word.now) l.words.items ++ words_of l.rest) ≡ take 8 (words_of l.line);
  room : length l.words.items ≤ 8;
  less : length l.rest ≤ length l.line;
}

abbrev pub decreases-loop-at : goal.decreases-loop-at
decreases-loop-at l = length l.rest
