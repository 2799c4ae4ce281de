-- What an answered read of a group gives, and which moments of its history come first.
use Rattle.std.proofs.Common.{◌≡◌, ℕ, ◌+◌, ◌-◌, ◌≤◌, List, [], ◌∷◌, ◌++◌, length, take, drop, Some, slice_get, slice_range, arith, refl, sym, ap, ◌∙◌}
use Rattle.std.proofs.lemmas.List.{length-take, length-drop, length-append, take-append-drop, take-take, take_at}
use Rattle.pf_protocol.specs.Servers.{Setup, Running}
use Rattle.pf_protocol.specs.Groups.{Answered}
use Rattle.pf_protocol.specs.Histories.{History, IsPrefix, replay}
use Rattle.pf_protocol.specs.Answers.{IsLegal}
use Rattle.pf_protocol.proofs.ForMoments.{legal_before}
use Rattle.pf_protocol.proofs.ForHistories.{fresh, legal_fits}

pub prefix_taken : (n : ℕ) (history : History) → IsPrefix (take n history) history
prefix_taken n history = record { rest = drop n history; whole = take-append-drop n history }

pub taken_before : (m n : ℕ) (history : History) → m ≤ n → IsPrefix (take m history) (take n history)
taken_before m n history le = record { rest = drop m (take n history); whole = ap (λ hs. hs ++ drop m (take n history)) (sym (take-take m n history le)) ∙ take-append-drop m (take n history) }

-- a moment within the first so many events is no later
pub prefix_low : (a history : History) (n : ℕ) → IsPrefix a (take n history) → length a ≤ n
prefix_low a history n p = omega (arith, ap length p.whole, length-append a p.rest, length-take n history)

length_range : {X : Type 0} → (xs : List X) (i n : ℕ) → i + n ≤ length xs → length (slice_range xs i (i + n)) ≡ n
length_range xs i n le = omega (arith, length-take ((i + n) - i) (drop i xs), length-drop i xs, le)

-- a read of eight sectors of the chunk gives eight
pub eight_given : (setup : Setup) (history : History) (k : ℕ) (a : Answered) → IsLegal setup history → slice_get (replay setup history).answered k ≡ Some a → a.range.first + a.range.count ≤ setup.chunk → length a.bytes ≡ a.range.count
eight_given setup history k a legal at inside =
    let f = fresh setup history k a at in
    let fits = (legal_fits setup (f.answering ++ f.answering_event ∷ []) (legal_before setup (f.answering ++ f.answering_event ∷ []) history f.is_part legal)).servers a.server (Running f.server) f.runs in
    ap length f.bytes ∙ length_range f.server.sectors a.range.first a.range.count (omega (arith, fits.1.sectors.0, inside))

-- a moment is so many first events
pub taken_whole : (a history : History) → IsPrefix a history → take (length a) history ≡ a
taken_whole a history p = ap (take (length a)) (sym p.whole) ∙ take_at a p.rest (length a) refl
