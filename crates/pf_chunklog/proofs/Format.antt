-- An empty log.
use Rattle.std.proofs.Common.{◌≡◌, inl, inr, ℕ, ◌+◌, ◌-◌, ◌≤◌, min, List, [], ◌∷◌, ◌++◌, length, take, drop, sym, ◌∙◌, ap, arith, length-take, take-append-drop}
use Rattle.std.proofs.lemmas.List.{append-nil, drop_all, ext_get_or, get_or-take, length-replicate}
use Rattle.std.proofs.lemmas.Bool.Decides.{nat_tests}
use Rattle.std.proofs.Math.ListN.{replicate}
use Rattle.pf_disk.specs.Crashes.{Cut, ImagesFollow, Only, Images, Torn}
use Rattle.pf_disk.specs.Files.{overwritten, end_of_write}
use Rattle.std.proofs.lemmas.List.Elements.{All-nil}
use Rattle.pf_chunklog.specs.Records.{RecordIsSized}
use Rattle.pf_chunklog.specs.Logs.{LogIsAtRest, IsCleared}

written_first : (start : List ℕ) → overwritten [] 0 start ≡ start
written_first start =
    let size = length-replicate {A = ℕ} (end_of_write 0 (length start) - 0) 0 in
    ap (λ (l : List ℕ). start ++ l) (drop_all (0 + length start) (replicate (end_of_write 0 (length start) - 0) 0) (grind (arith, nat_tests, size))) ∙ append-nil start

-- the head and a closed gate, all of it on the disk
pub empty : (head start : List ℕ) (images : Images) → length head ≡ 8 → start ≡ head ++ 0 ∷ [] → Only (overwritten [] 0 start) images → LogIsAtRest head 9 images [] (overwritten [] 0 start)
empty head start images long is only = record {
  held = record {
    gate = 0;
    rest = [];
    closed = λ e. absurd (cc e);
    sized = All-nil RecordIsSized;
    split = written_first start ∙ is ∙ ap (λ (l : List ℕ). l ++ 0 ∷ []) (sym (append-nil head));
  };
  size = omega (arith, long);
  durable = only;
}

-- what a crash leaves after the cut
pub after_cut : (end : ℕ) (old new : Images) → ImagesFollow (Cut end 0) old new → (c : List ℕ) → new c → IsCleared old c
after_cut end old new follows c left =
    let from = follows c left in
    let d = from.0 in
    let shorter : length c ≤ length d = omega (arith, from.2.no_longer) in
    let front : c ≡ take (length c) d =
    ext_get_or 0 c (take (length c) d) (omega (arith, shorter, length-take (length c) d))
    (λ k lt. from.2.same k (omega (arith, lt, shorter)) lt (inr (omega arith)) ∙ sym (get_or-take (length c) d k 0 lt)) in
    inl (d, drop (length c) d, from.1, sym (take-append-drop (length c) d) ∙ ap (λ (l : List ℕ). l ++ drop (length c) d) (sym front))

-- and after the write
pub after_start : (start : List ℕ) (images old new : Images) → length start ≡ 9 → Only [] old → ImagesFollow (Torn (min (length {A = ℕ} []) 0) (end_of_write 0 (length start))) old new → (c : List ℕ) → new c → IsCleared images c
after_start start images old new long only follows c left =
    let from = follows c left in
    let none : length from.0 ≡ 0 = ap length (only from.0 from.1) in
    inr (grind (arith, nat_tests, long, none, from.2.no_longer))
