-- Pieces of a text, which are taken at once.
use Rattle.std.proofs.Common.{◌≡◌, ℕ, suc, ◌+◌, ◌<◌, ◌≤◌, Bool, true, false, ◌&&◌, ◌||◌, nat_lt, cond, List, [], ◌∷◌, ◌++◌, length, get_or, take, drop, Some, None, Err, refl, ap, sym, subst, ◌∙◌, inl, inr, arith, append_assoc, append-nil, length-append, drop-cons}
use Rattle.std.proofs.lemmas.List.{get_or-take, length-take-le, take-append-drop}
use Rattle.std.proofs.lemmas.Bool.Decides.{nat_tests}
use Rattle.std.proofs.lemmas.List.Quantifiers.{position-Some}
use Rattle.std.proofs.lemmas.List.Sums.{fails_before_first}
use Rattle.std.specs.List.{All, position, position_or_len}
use Rattle.pf_script.specs.declared.command.LineFault.TheVariants.{LineTooLong, TooManyLines}
use Rattle.pf_run_lines.specs.declared.scan.Stop.{Stop}
use Rattle.pf_run_lines.specs.declared.scan.Stop.TheVariants as stops
use Rattle.pf_run_lines.specs.LineScans.{LineRules, Scanned, Open, Refused, is_feed, is_line_over, over_fault, read_line, fed, fed_all, fed_line}
use Rattle.pf_run_lines.specs.ScanView.{Told}
use Rattle.pf_run_lines.proofs.TextPieces.{told_on}
use Rattle.pf_run_lines.proofs.TextBytes.{cases_bool, over_read, refused_all}

-- no line ends in these bytes
abbrev pub HasNoFeed : List ℕ → Type 0
HasNoFeed bytes = All (λ byte. is_feed byte ≡ false) bytes

first_other : (b : ℕ) (bs : List ℕ) → HasNoFeed (b ∷ bs) → is_feed b ≡ false
first_other b bs none = none 0 0 (omega arith)

rest_other : (b : ℕ) (bs : List ℕ) → HasNoFeed (b ∷ bs) → HasNoFeed bs
rest_other b bs none k d within = none (suc k) d (omega (arith, within))

is_ten : (b : ℕ) → is_feed b ≡ true → b ≡ 10
is_ten b feed = grind (arith, nat_tests)

pub found_within : (bytes : List ℕ) (i : ℕ) → position is_feed bytes ≡ Some i → i < length bytes
found_within bytes i found = (position-Some is_feed bytes i 0 found).0

-- the bytes before the first line feed
pub front_other : (bytes : List ℕ) (i : ℕ) → position is_feed bytes ≡ Some i → HasNoFeed (take i bytes)
front_other bytes i found k d within =
    let at = position-Some is_feed bytes i d found in
    let before : k < i = omega (arith, within, length-take-le i bytes (omega (arith, at.0))) in
    ap is_feed (get_or-take i bytes k d before) ∙ at.2 k before

none_in : (bytes : List ℕ) (first : ℕ) → cond (nat_lt first (length bytes)) (Some first) None ≡ None → length bytes ≤ first
none_in bytes first none = grind (arith, nat_tests)

pub all_other : (bytes : List ℕ) → position is_feed bytes ≡ None → HasNoFeed bytes
all_other bytes none k d within = fails_before_first is_feed bytes k d (omega (arith, within, none_in bytes (position_or_len is_feed bytes) none))

pub line_split : (bytes : List ℕ) (i : ℕ) → position is_feed bytes ≡ Some i → take i bytes ++ 10 ∷ drop (i + 1) bytes ≡ bytes
line_split bytes i found =
    let at = position-Some is_feed bytes i 0 found in
    let next : i + 1 ≡ suc i = omega arith in
    ap (λ b. take i bytes ++ b ∷ drop (i + 1) bytes) (sym (is_ten (get_or bytes i 0) at.1))
    ∙ ap (λ n. take i bytes ++ get_or bytes i 0 ∷ drop n bytes) next
    ∙ ap (λ l. take i bytes ++ l) (sym (drop-cons bytes i 0 at.0))
    ∙ take-append-drop i bytes

clash : (b : Bool) → b ≡ true → b ≡ false → ⊥
clash b is isnt = cc

under_len : (n l m : ℕ) → l ≤ m → ((nat_lt 100000 n && nat_lt 0 m) || nat_lt 1024 m) ≡ false → ((nat_lt 100000 n && nat_lt 0 l) || nat_lt 1024 l) ≡ false
under_len n l m le h = grind (arith, nat_tests)

-- a front of a line that is not over is not over
under_front : (n : ℕ) (p : List ℕ) (b : ℕ) (bs : List ℕ) → is_line_over n (p ++ b ∷ bs) ≡ false → is_line_over n (p ++ b ∷ []) ≡ false
under_front n p b bs under = under_len n (length (p ++ b ∷ [])) (length (p ++ b ∷ bs)) (omega (arith, length-append p (b ∷ []), length-append p (b ∷ bs))) under

is_under : (n l : ℕ) → n ≤ 100000 → l ≤ 1024 → ((nat_lt 100000 n && nat_lt 0 l) || nat_lt 1024 l) ≡ false
is_under n l few short = grind (arith, nat_tests)

is_long : (n l : ℕ) → 1024 < l → ((nat_lt 100000 n && nat_lt 0 l) || nat_lt 1024 l) ≡ true
is_long n l long = grind (arith, nat_tests)

is_empty : (n l : ℕ) → l ≡ 0 → ((nat_lt 100000 n && nat_lt 0 l) || nat_lt 1024 l) ≡ false
is_empty n l empty = grind (arith, nat_tests)

is_begun : (n l : ℕ) → 100000 < n → 0 < l → ((nat_lt 100000 n && nat_lt 0 l) || nat_lt 1024 l) ≡ true
is_begun n l many some = grind (arith, nat_tests)

is_early : (n : ℕ) → n ≤ 100000 → nat_lt 100000 n ≡ false
is_early n few = grind (arith, nat_tests)

is_late : (n : ℕ) → 100000 < n → nat_lt 100000 n ≡ true
is_late n many = grind (arith, nat_tests)

module _ {S I : Type 0} (rules : LineRules S I) where
  one_more : (ls : List I) (n : ℕ) (v : S) (p : List ℕ) (b : ℕ) (over : Bool) → is_feed b ≡ false → is_line_over n (p ++ b ∷ []) ≡ over → fed rules (Open ls n v p) b ≡ cond over (Refused n (over_fault n)) (Open ls n v (p ++ b ∷ []))
  one_more ls n v p b over other is =
      ap (λ f. cond f (fed_line rules ls n v (read_line rules n v p)) (cond (is_line_over n (p ++ b ∷ [])) (Refused n (over_fault n)) (Open ls n v (p ++ b ∷ [])))) other
      ∙ ap (λ o. cond o (Refused n (over_fault n)) (Open ls n v (p ++ b ∷ []))) is

  under_all : (ls : List I) (n : ℕ) (v : S) (p bs : List ℕ) → HasNoFeed bs → is_line_over n (p ++ bs) ≡ false → fed_all rules (Open ls n v p) bs ≡ Open ls n v (p ++ bs)
  under_all ls n v p [] none under = ap (Open ls n v) (sym (append-nil p))
  under_all ls n v p (b ∷ bs) none under =
      ap (λ s. fed_all rules s bs) (one_more ls n v p b false (first_other b bs none) (under_front n p b bs under))
      ∙ under_all ls n v (p ++ b ∷ []) bs (rest_other b bs none) (ap (is_line_over n) (append_assoc p (b ∷ []) bs) ∙ under)
      ∙ ap (Open ls n v) (append_assoc p (b ∷ []) bs)

  over_all : (ls : List I) (n : ℕ) (v : S) (p bs : List ℕ) → HasNoFeed bs → is_line_over n p ≡ false → is_line_over n (p ++ bs) ≡ true → fed_all rules (Open ls n v p) bs ≡ Refused n (over_fault n)
  over_all ls n v p [] none under over = absurd (clash (is_line_over n p) (ap (is_line_over n) (sym (append-nil p)) ∙ over) under)
  over_all ls n v p (b ∷ bs) none under over =
      elim (cases_bool (is_line_over n (p ++ b ∷ []))) [
        | inl is ↦ ap (λ s. fed_all rules s bs) (one_more ls n v p b true (first_other b bs none) is) ∙ refused_all rules n (over_fault n) bs
        | inr isnt ↦
            ap (λ s. fed_all rules s bs) (one_more ls n v p b false (first_other b bs none) isnt)
            ∙ over_all ls n v (p ++ b ∷ []) bs (rest_other b bs none) isnt (ap (is_line_over n) (append_assoc p (b ∷ []) bs) ∙ over)
      ]

  pub piece_fits : (ls : List I) (n : ℕ) (v : S) (p bs : List ℕ) → HasNoFeed bs → n ≤ 100000 → length p + length bs ≤ 1024 → fed_all rules (Open ls n v p) bs ≡ Open ls n v (p ++ bs)
  piece_fits ls n v p bs none few short = under_all ls n v p bs none (is_under n (length (p ++ bs)) few (omega (arith, short, length-append p bs)))

  pub piece_too_long : (ls : List I) (n : ℕ) (v : S) (p bs : List ℕ) → HasNoFeed bs → n ≤ 100000 → length p ≤ 1024 → 1024 < length p + length bs → fed_all rules (Open ls n v p) bs ≡ Refused n LineTooLong
  piece_too_long ls n v p bs none few short long =
      over_all ls n v p bs none (is_under n (length p) few short) (is_long n (length (p ++ bs)) (omega (arith, long, length-append p bs)))
      ∙ ap (λ late. Refused n (cond late TooManyLines LineTooLong)) (is_early n few)

  pub piece_too_late : (ls : List I) (n : ℕ) (v : S) (p bs : List ℕ) → HasNoFeed bs → 100000 < n → length p ≡ 0 → 0 < length bs → fed_all rules (Open ls n v p) bs ≡ Refused n TooManyLines
  piece_too_late ls n v p bs none many empty some =
      over_all ls n v p bs none (is_empty n (length p) empty) (is_begun n (length (p ++ bs)) many (omega (arith, some, length-append p bs)))
      ∙ ap (λ late. Refused n (cond late TooManyLines LineTooLong)) (is_late n many)

  pub all_append : (s : Scanned S I) (xs ys : List ℕ) → fed_all rules s (xs ++ ys) ≡ fed_all rules (fed_all rules s xs) ys
  all_append s [] ys = refl
  all_append s (x ∷ xs) ys = all_append (fed rules s x) xs ys

  -- a whole line is read as it is
  pub whole_line : (ls : List I) (n : ℕ) (v : S) (p bs : List ℕ) → HasNoFeed bs → p ≡ [] → fed rules (fed_all rules (Open ls n v p) bs) 10 ≡ fed_line rules ls n v (read_line rules n v bs)
  whole_line ls n v p bs none empty =
      ap (λ b. fed rules (fed_all rules (Open ls n v b) bs) 10) empty
      ∙ elim (cases_bool (is_line_over n bs)) [
        | inl over ↦ ap (λ s. fed rules s 10) (over_all ls n v [] bs none (is_empty n 0 refl) over) ∙ ap (fed_line rules ls n v) (sym (over_read rules n v bs over))
        | inr under ↦ ap (λ s. fed rules s 10) (under_all ls n v [] bs none under)
      ]

  -- a line that is refused before its feed stays so
  pub feed_stops : (stop : Stop) (s now : Scanned S I) → Told (Err stop) s now → Told (Err stop) (fed rules s 10) now
  feed_stops stops.NoMemory s now told = tt
  feed_stops (stops.Refused line fault) s now told = ap (λ t. fed rules t 10) told
  feed_stops stops.Failed s now told = absurd told

  -- a line and its feed, and what follows
  pub line_fed : (s : Scanned S I) (bytes : List ℕ) (i : ℕ) → position is_feed bytes ≡ Some i → fed_all rules s bytes ≡ fed_all rules (fed rules (fed_all rules s (take i bytes)) 10) (drop (i + 1) bytes)
  line_fed s bytes i found = ap (fed_all rules s) (sym (line_split bytes i found)) ∙ all_append s (take i bytes) (10 ∷ drop (i + 1) bytes)

  pub line_stops : (stop : Stop) (s : Scanned S I) (bytes : List ℕ) (i : ℕ) (now : Scanned S I) → position is_feed bytes ≡ Some i → Told (Err stop) (fed rules (fed_all rules s (take i bytes)) 10) now → Told (Err stop) (fed_all rules s bytes) now
  line_stops stop s bytes i now found told =
      subst (λ x. Told (Err stop) x now) (sym (line_fed s bytes i found)) (told_on rules stop (fed_all rules s (take i bytes)) 10 (drop (i + 1) bytes) now now told)

pub room_left : (before now then all left rest front i : ℕ) → now + all ≤ before + left → then + front < now → front ≡ i → rest + (i + 1) ≡ left → then + all ≤ before + rest
room_left before now then all left rest front i room line is rests = omega (arith, room, line, is, rests)
