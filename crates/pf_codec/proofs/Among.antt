-- Bytes that are a part of others.
use Rattle.std.proofs.Common.{◌≡◌, ℕ, ◌+◌, ◌*◌, ◌-◌, ◌≤◌, List, ◌++◌, length, take, drop, Option, Some, None, sym, ap, subst, ◌∙◌, arith, length-append}
use Rattle.std.specs.List.{slice_range}
use Rattle.std.specs.Simd.{first_chunks}
use Rattle.std.proofs.lemmas.List.{append_assoc, length-take, take-append-drop}
use Rattle.std.proofs.Math.Seq.{drop-append_seam, take-add}
use Rattle.pf_base.proofs.Chunks.{chunks_front}
use Rattle.pf_codec.specs.Parsers.{row_at}
use Rattle.pf_codec.specs.Reading.{sector_at}
use Rattle.pf_codec.specs.Tails.{IsAmong}
use Rattle.pf_codec.proofs.SectorRows.{sectors_ahead, all_left}

-- behind the first of them
pub among_behind : (ahead rest left : List ℕ) (whole : Option (List ℕ)) (end : ℕ) → left ≡ ahead ++ rest → IsAmong left whole end → IsAmong rest whole end
among_behind ahead rest left None end is among = tt
among_behind ahead rest left (Some whole) end is among = (among.0, (among.1.0 ++ ahead, among.1.1 ∙ ap (λ (xs : List ℕ). among.1.0 ++ xs) is ∙ sym (append_assoc among.1.0 ahead rest)))

pub among_dropped : (n : ℕ) (left : List ℕ) (whole : Option (List ℕ)) (end : ℕ) → IsAmong left whole end → IsAmong (drop n left) whole end
among_dropped n left whole end among = among_behind (take n left) (drop n left) left whole end (sym (take-append-drop n left)) among

pub among_left : (n : ℕ) (left : List ℕ) (whole : Option (List ℕ)) (end : ℕ) → IsAmong left whole end → IsAmong (take (length left - n) (drop n left)) whole end
among_left n left whole end among = subst (λ (rest : List ℕ). IsAmong rest whole end) (sym (all_left n left)) (among_dropped n left whole end among)

-- so many bytes before the end
pub among_range : (end : ℕ) (whole part : List ℕ) → end ≤ length whole → length part ≤ end → part ≡ slice_range whole (end - length part) end → IsAmong part (Some whole) end
among_range end whole part inside short is =
    let from = end - length part in
    let upto : from + (end - from) ≡ end = omega (arith, short) in
    (inside, (take from whole, sym (ap (λ k. take k whole) upto) ∙ take-add from (end - from) whole ∙ ap (λ (xs : List ℕ). take from whole ++ xs) (sym is)))

pub ends_within : (rest whole : List ℕ) (end : ℕ) → IsAmong rest (Some whole) end → length rest ≤ end
ends_within rest whole end among = omega (arith, ap length among.1.1, length-append among.1.0 rest, length-take end whole, among.0)

-- the sectors at the front, where they stand among the others
pub part_there : (n end from : ℕ) (rest whole : List ℕ) → IsAmong rest (Some whole) end → from ≡ end - length rest → 512 * n ≤ length rest → first_chunks 512 n (drop from whole) ≡ first_chunks 512 n rest
part_there n end from rest whole among is h =
    let front = among.1.0 in
    let more = drop end whole in
    let count : from ≡ length front = omega (arith, is, ap length among.1.1, length-append front rest, length-take end whole, among.0) in
    let all : whole ≡ front ++ (rest ++ more) = sym (take-append-drop end whole) ∙ ap (λ (xs : List ℕ). xs ++ more) among.1.1 ∙ append_assoc front rest more in
    let left : drop from whole ≡ rest ++ more = ap (λ k. drop k whole) count ∙ ap (drop (length front)) all ∙ drop-append_seam front (rest ++ more) in
    ap (first_chunks 512 n) left ∙ chunks_front n rest more h

-- a row of them is read
pub part_read : (n : ℕ) (bytes tail all : List ℕ) (items : List (List ℕ)) → bytes ++ tail ≡ all → 512 * n ≤ length bytes → items ≡ first_chunks 512 n bytes
    → row_at sector_at n all ≡ Some (items, take (length bytes - 512 * n) (drop (512 * n) bytes) ++ tail)
part_read n bytes tail all items is h same =
    ap (row_at sector_at n) (sym is) ∙ sectors_ahead n bytes tail h ∙ (λ i. Some (sym same i, sym (all_left (512 * n) bytes) i ++ tail))
