-- What moments tell of the ports into a group.
use Rattle.std.proofs.Common.{◌≡◌, ◌≢◌, ℕ, suc, ◌<◌, ◌≤◌, Bool, true, false, ◌&&◌, ◌==◌, if◌then◌else◌, List, [], ◌∷◌, ◌++◌, length, Option, Some, None, slice_get, take, arith, refl, sym, ap, subst, ◌∙◌, append-nil}
use Rattle.std.specs.List.{fold}
use Rattle.std.proofs.lemmas.Bool.{eq-eqb, eqb-true, false≢true, ne_eqb}
use Rattle.std.proofs.lemmas.Grind.{fold-append}
use Rattle.std.proofs.lemmas.List.{append_assoc, take-append-le}
use Rattle.std.proofs.lemmas.Option.{none-some, same_Some}
use Rattle.pf_entry.specs.Lists.{Every}
use Rattle.pf_entry.proofs.Cases.{by_test}
use Rattle.pf_move.specs.declared.mover.MoverAsk.{MoverAsk}
use Rattle.pf_move.specs.declared.mover.MoverAsk.TheVariants.{Reading, Writing}
use Rattle.pf_move.specs.declared.mover.MoveNext.{MoveNext}
use Rattle.pf_move.specs.declared.mover.MoveNext.TheVariants.{Read, Write, Switch}
use Rattle.pf_protocol.specs.declared.events.Event.{Event}
use Rattle.pf_protocol.specs.declared.events.Event.TheVariants as events
use Rattle.pf_protocol.specs.declared.events.Happening.{Happening}
use Rattle.pf_protocol.specs.Histories.{History}
use Rattle.pf_world_moments.specs.pf_group_network.proofs.Lists.{at_front, something_there}
use Rattle.pf_world_moments.specs.pf_chunk.specs.Runs.{mover_port}
use Rattle.pf_world_moments.specs.Moments.{Carries, Hands, Moment, Moves as MovesTo, Writes, Acts}
use Rattle.pf_law_movers.specs.Pasts.{MoverTrace, PortTrace, at_carry, first_chunk, handed_at, handed_by, is_some_of, moves_into, no_moves, no_trace, mover_numbered, trace_in, with_trace_of_port}

-- The chunk for which a group has the asks

abbrev pub has_after : (group : ℕ) → Option ℕ → Moment → Option ℕ
has_after group of (MovesTo chunk to) = if to == group then Some chunk else if is_some_of of chunk then None else of
has_after group of moment = of

abbrev pub asks_of : (count : ℕ) → List Moment → (group : ℕ) → Option ℕ
asks_of count told group = fold (has_after group) (first_chunk count group) told

pub asks_on : (count : ℕ) (told more : List Moment) (group : ℕ) → asks_of count (told ++ more) group ≡ fold (has_after group) (asks_of count told group) more
asks_on count told more group = fold-append (has_after group) (first_chunk count group) told more

-- no chunk begins to move
abbrev pub IsNoMove : Moment → Type 0
IsNoMove (MovesTo chunk to) = ⊥
IsNoMove moment = Unit {0}

pub has_still : (group : ℕ) (of : Option ℕ) (y : Moment) → IsNoMove y → has_after group of y ≡ of
has_still group of (MovesTo chunk to) none = absurd none
has_still group of (Writes text) none = refl
has_still group of (Acts who act) none = refl
has_still group of (Carries its reply wants) none = refl
has_still group of (Hands m k place) none = refl

pub asks_still : (count : ℕ) (told more : List Moment) (group : ℕ) → Every IsNoMove more → asks_of count (told ++ more) group ≡ asks_of count told group
asks_still count told [] group none = ap (λ (all : List Moment). asks_of count all group) (append-nil told)
asks_still count told (y ∷ more) group none =
    ap (λ (all : List Moment). asks_of count all group) (sym (append_assoc told (y ∷ []) more)) ∙ asks_still count (told ++ y ∷ []) more group none.1
    ∙ asks_on count told (y ∷ []) group ∙ has_still group (asks_of count told group) y none.0

-- no chunk goes to the group
abbrev pub IsElsewhere : (k : ℕ) → Moment → Type 0
IsElsewhere k (MovesTo chunk to) = to ≢ k
IsElsewhere k moment = Unit {0}

-- a place of the history of group k that was told lies within so many events
abbrev pub IsWithin : (k n : ℕ) → Moment → Type 0
IsWithin k n (Hands mount chunk place) = chunk ≡ k → place < n
IsWithin k n moment = Unit {0}

pub within_more : (k n more : ℕ) → n ≤ more → (y : Moment) → IsWithin k n y → IsWithin k more y
within_more k n more le (Hands mount chunk place) is = λ same. let low = is same in omega arith
within_more k n more le (Writes text) is = tt
within_more k n more le (Acts who act) is = tt
within_more k n more le (MovesTo its to) is = tt
within_more k n more le (Carries its reply wants) is = tt

-- The moment is nothing to the mover's ports into group k
pub record Passes (k : ℕ) (y : Moment) : Type 0 where
  pub hauls : (history : History) (t : MoverTrace) → at_carry history k t y ≡ t
  pub within : (n : ℕ) → IsWithin k n y
  pub still : IsNoMove y

pub writes_pass : (k : ℕ) (text : List ℕ) → Passes k (Writes text)
writes_pass k text = record { hauls = λ history t. refl; within = λ n. tt; still = tt }

test_apart : {X : Type 0} → (b : Bool) (j k : ℕ) (x y : X) → j ≢ k → (if b && (j == k) then x else y) ≡ y
test_apart true j k x y apart = ap (λ b. if b then x else y) (ne_eqb j k apart)
test_apart false j k x y apart = refl

pub test_other : {X : Type 0} → (b : Bool) (i m : ℕ) (x y : X) → i ≢ m → (if (i == m) && b then x else y) ≡ y
test_other b i m x y apart = ap (λ a. if a && b then x else y) (ne_eqb i m apart)

pub test_same : {X : Type 0} → (i m j k : ℕ) (x y : X) → i ≡ m → j ≡ k → (if (i == m) && (j == k) then x else y) ≡ x
test_same i m j k x y is same = ap (λ a. if a && (j == k) then x else y) (eq-eqb i m is) ∙ ap (λ b. if b then x else y) (eq-eqb j k same)

pub hands_pass : (k mount chunk place : ℕ) → chunk ≢ k → Passes k (Hands mount chunk place)
hands_pass k mount chunk place apart = record {
  hauls = λ history t. test_apart (mount == mover_port) chunk k (with_trace_of_port (handed_at (take place history) (slice_get history place)) t.role t) t apart;
  within = λ n same. absurd (apart same);
  still = tt;
}

pub at_apart : (of : Option ℕ) (chunk : ℕ) → (of ≡ Some chunk → ⊥) → is_some_of of chunk ≡ false
at_apart None chunk apart = refl
at_apart (Some k) chunk apart = ne_eqb k chunk (λ same. apart (ap (λ i. Some i) same))

pub at_same : (of : Option ℕ) (chunk : ℕ) → of ≡ Some chunk → is_some_of of chunk ≡ true
at_same None chunk same = absurd (none-some chunk same)
at_same (Some k) chunk same = eq-eqb k chunk (same_Some k chunk same)

pub is_of : (of : Option ℕ) (chunk : ℕ) → is_some_of of chunk ≡ true → of ≡ Some chunk
is_of None chunk at = absurd (false≢true at)
is_of (Some k) chunk at = ap (λ i. Some i) (eqb-true k chunk at)

-- The trace of a port

pub handed_asks : (before : History) (h : Option Happening) (t : PortTrace) → (handed_at before h t).asks ≡ t.asks
handed_asks before None t = refl
handed_asks before (Some h) t = by h.event
  where
    by : (event : Event) → (handed_by before event h.answer t).asks ≡ t.asks
    by (events.Submit server op) = refl
    by (events.Fetch server range) = refl
    by event = refl

-- What was told of a history is told of a longer one

module _ (history rest : History) (k : ℕ) where
  get_front : (place : ℕ) → place < length history → slice_get (history ++ rest) place ≡ slice_get history place
  get_front place low = let there = something_there history place low in at_front history rest place there.0 there.1 ∙ sym there.1

  hands_same : {X : Type 0} → (f : PortTrace → X) (b : Bool) (place : ℕ) (t : PortTrace) (x : X) → (b ≡ true → place < length history)
      → (if b then f (handed_at (take place (history ++ rest)) (slice_get (history ++ rest) place) t) else x) ≡ (if b then f (handed_at (take place history) (slice_get history place) t) else x)
  hands_same f false place t x low = refl
  hands_same f true place t x low =
      ap (λ before. f (handed_at before (slice_get (history ++ rest) place) t)) (take-append-le place history rest (let le = low refl in omega arith))
      ∙ ap (λ h. f (handed_at (take place history) h t)) (get_front place (low refl))

  tested : (b : Bool) (i j : ℕ) → (b && (i == j)) ≡ true → i ≡ j
  tested true i j both = eqb-true i j both
  tested false i j both = absurd (false≢true both)

  same_port : (before now : PortTrace → PortTrace) → ((t : PortTrace) → now t ≡ before t) → (role : Option MoverAsk) (t : MoverTrace) → with_trace_of_port now role t ≡ with_trace_of_port before role t
  same_port before now same None t = refl
  same_port before now same (Some Reading) t = ap (λ (x : PortTrace). let y : MoverTrace = record t { read = x } in y) (same t.read)
  same_port before now same (Some Writing) t = ap (λ (x : PortTrace). let y : MoverTrace = record t { written = x } in y) (same t.written)

  hauls_same : (b : Bool) (place : ℕ) (t : MoverTrace) → (b ≡ true → place < length history)
      → (if b then with_trace_of_port (handed_at (take place (history ++ rest)) (slice_get (history ++ rest) place)) t.role t else t) ≡ (if b then with_trace_of_port (handed_at (take place history) (slice_get history place)) t.role t else t)
  hauls_same false place t low = refl
  hauls_same true place t low = same_port (handed_at (take place history) (slice_get history place)) (handed_at (take place (history ++ rest)) (slice_get (history ++ rest) place))
      (λ x. hands_same (λ (y : PortTrace). y) true place x x low) t.role t

  same_carry : (y : Moment) (t : MoverTrace) → IsWithin k (length history) y → at_carry (history ++ rest) k t y ≡ at_carry history k t y
  same_carry (Hands mount chunk place) t is = hauls_same (mount == mover_port && chunk == k) place t (λ both. is (tested (mount == mover_port) chunk k both))
  same_carry (Writes text) t is = refl
  same_carry (Acts who act) t is = refl
  same_carry (MovesTo its to) t is = refl
  same_carry (Carries its reply wants) t is = refl

  carry_from : (told : List Moment) (t : MoverTrace) → Every (IsWithin k (length history)) told → fold (at_carry (history ++ rest) k) t told ≡ fold (at_carry history k) t told
  carry_from [] t is = refl
  carry_from (y ∷ told) t is = ap (λ s. fold (at_carry (history ++ rest) k) s told) (same_carry y t is.0) ∙ carry_from told (at_carry history k t y) is.1

  pub moves_longer : (count : ℕ) (told : List Moment) → Every (IsWithin k (length history)) told → moves_into (history ++ rest) k count told ≡ moves_into history k count told
  moves_longer count told is = carry_from told (no_moves (first_chunk count k)) is

-- The traces of the mover's ports

-- what is known of them after this was told: the port that is in use was not asked more often than the mover asked
pub record IsHauled (count : ℕ) (told : List Moment) (k : ℕ) (t : MoverTrace) : Type 0 where
  pub of : t.of ≡ asks_of count told k
  pub low : (role : MoverAsk) → t.role ≡ Some role → (trace_in t role).asks ≤ t.count

pub reading_apart : Reading ≡ Writing → ⊥
reading_apart same = cc

module _ (history : History) (k count : ℕ) where
  pub moves_more : (told : List Moment) (y : Moment) → moves_into history k count (told ++ y ∷ []) ≡ at_carry history k (moves_into history k count told) y
  moves_more told y = fold-append (at_carry history k) (no_moves (first_chunk count k)) told (y ∷ [])

  of_port : (change : PortTrace → PortTrace) (role : Option MoverAsk) (t : MoverTrace) → ((with_trace_of_port change role t).of ≡ t.of) × ((with_trace_of_port change role t).role ≡ t.role) × ((with_trace_of_port change role t).count ≡ t.count)
  of_port change None t = (refl, refl, refl)
  of_port change (Some Reading) t = (refl, refl, refl)
  of_port change (Some Writing) t = (refl, refl, refl)

  asks_port : (change : PortTrace → PortTrace) → ((t : PortTrace) → (change t).asks ≡ t.asks) → (role : Option MoverAsk) (t : MoverTrace) (its : MoverAsk) → (trace_in (with_trace_of_port change role t) its).asks ≡ (trace_in t its).asks
  asks_port change same None t its = refl
  asks_port change same (Some Reading) t Reading = same t.read
  asks_port change same (Some Reading) t Writing = refl
  asks_port change same (Some Writing) t Reading = refl
  asks_port change same (Some Writing) t Writing = same t.written

  of_numbered : (n : ℕ) (role : Option MoverAsk) (next : MoveNext) (t : MoverTrace) → ((mover_numbered n role next t).of ≡ t.of) × ((mover_numbered n role next t).role ≡ t.role) × ((mover_numbered n role next t).count ≡ t.count)
  of_numbered n None next t = (refl, refl, refl)
  of_numbered n (Some Reading) (Read span) t = (refl, refl, refl)
  of_numbered n (Some Reading) (Write span sectors) t = (refl, refl, refl)
  of_numbered n (Some Reading) Switch t = (refl, refl, refl)
  of_numbered n (Some Writing) (Read span) t = (refl, refl, refl)
  of_numbered n (Some Writing) (Write span sectors) t = (refl, refl, refl)
  of_numbered n (Some Writing) Switch t = (refl, refl, refl)

  low_numbered : (n : ℕ) (role : Option MoverAsk) (next : MoveNext) (t : MoverTrace) (its : MoverAsk) → (trace_in t its).asks ≤ n → (trace_in (mover_numbered n role next t) its).asks ≤ n
  low_numbered n None next t its low = low
  low_numbered n (Some Reading) (Read span) t Reading low = omega arith
  low_numbered n (Some Reading) (Read span) t Writing low = low
  low_numbered n (Some Reading) (Write span sectors) t its low = low
  low_numbered n (Some Reading) Switch t its low = low
  low_numbered n (Some Writing) (Write span sectors) t Writing low = omega arith
  low_numbered n (Some Writing) (Write span sectors) t Reading low = low
  low_numbered n (Some Writing) (Read span) t its low = low
  low_numbered n (Some Writing) Switch t its low = low

  of_carry : (y : Moment) (t : MoverTrace) → (at_carry history k t y).of ≡ has_after k t.of y
  of_carry (MovesTo chunk to) t =
      let into : MoverTrace = record t { of = Some chunk; chunk = chunk; role = Some Writing; count = 0; written = no_trace } in
      let away : MoverTrace = record t { of = None; chunk = chunk; role = Some Reading; count = 0; read = no_trace } in
      let other : MoverTrace = record t { role = None } in
      by_test (to == k) (λ b. (if b then into else if is_some_of t.of chunk then away else other).of ≡ (if b then Some chunk else if is_some_of t.of chunk then None else t.of))
      (λ _. refl)
      (λ _. by_test (is_some_of t.of chunk) (λ b. (if b then away else other).of ≡ (if b then None else t.of)) (λ _. refl) (λ _. refl))
  of_carry (Hands mount chunk place) t =
      let change = handed_at (take place history) (slice_get history place) in
      by_test (mount == mover_port && chunk == k) (λ b. (if b then with_trace_of_port change t.role t else t).of ≡ t.of) (λ _. (of_port change t.role t).0) (λ _. refl)
  of_carry (Carries chunk reply next) t =
      let one : MoverTrace = record t { count = suc t.count } in
      by_test (chunk == t.chunk) (λ b. (if b then mover_numbered (suc t.count) t.role next one else t).of ≡ t.of) (λ _. (of_numbered (suc t.count) t.role next one).0) (λ _. refl)
  of_carry (Writes text) t = refl
  of_carry (Acts who act) t = refl

  abbrev IsLow : MoverTrace → Type 0
  IsLow t = (role : MoverAsk) → t.role ≡ Some role → (trace_in t role).asks ≤ t.count

  low_into : (t : MoverTrace) (chunk : ℕ) → IsLow (record t { of = Some chunk; chunk = chunk; role = Some Writing; count = 0; written = no_trace })
  low_into t chunk Writing is = omega arith
  low_into t chunk Reading is = absurd (reading_apart (sym (same_Some Writing Reading is)))

  low_away : (t : MoverTrace) (chunk : ℕ) → IsLow (record t { of = None; chunk = chunk; role = Some Reading; count = 0; read = no_trace })
  low_away t chunk Reading is = omega arith
  low_away t chunk Writing is = absurd (reading_apart (same_Some Reading Writing is))

  low_carry : (y : Moment) (t : MoverTrace) → IsLow t → IsLow (at_carry history k t y)
  low_carry (MovesTo chunk to) t low =
      let into : MoverTrace = record t { of = Some chunk; chunk = chunk; role = Some Writing; count = 0; written = no_trace } in
      let away : MoverTrace = record t { of = None; chunk = chunk; role = Some Reading; count = 0; read = no_trace } in
      let other : MoverTrace = record t { role = None } in
      by_test (to == k) (λ b. IsLow (if b then into else if is_some_of t.of chunk then away else other)) (λ _. low_into t chunk)
      (λ _. by_test (is_some_of t.of chunk) (λ b. IsLow (if b then away else other)) (λ _. low_away t chunk) (λ _. λ role none. absurd (none-some role none)))
  low_carry (Hands mount chunk place) t low =
      let before = take place history in
      let h = slice_get history place in
      by_test (mount == mover_port && chunk == k) (λ b. IsLow (if b then with_trace_of_port (handed_at before h) t.role t else t))
      (λ _. λ role is.
      let same = of_port (handed_at before h) t.role t in
      let asks = asks_port (handed_at before h) (handed_asks before h) t.role t role in
      let was = low role (sym same.1 ∙ is) in
      omega (arith, asks, was, same.2))
      (λ _. low)
  low_carry (Carries chunk reply next) t low =
      let one : MoverTrace = record t { count = suc t.count } in
      by_test (chunk == t.chunk) (λ b. IsLow (if b then mover_numbered (suc t.count) t.role next one else t))
      (λ _. λ role is.
      let same = of_numbered (suc t.count) t.role next one in
      let was : (trace_in t role).asks ≤ t.count = low role (sym same.1 ∙ is) in
      let here : (trace_in one role).asks ≤ suc t.count = up t role (suc t.count) (omega (arith, was)) in
      let now = low_numbered (suc t.count) t.role next one role here in
      omega (arith, now, same.2))
      (λ _. low)
    where
      up : (t : MoverTrace) (role : MoverAsk) (n : ℕ) → (trace_in t role).asks ≤ n → (let one : MoverTrace = record t { count = suc t.count } in (trace_in one role).asks ≤ n)
      up t Reading n le = le
      up t Writing n le = le
  low_carry (Writes text) t low = low
  low_carry (Acts who act) t low = low

  hauls_from : (before rest : List Moment) (t : MoverTrace) → IsHauled count before k t → IsHauled count (before ++ rest) k (fold (at_carry history k) t rest)
  hauls_from before [] t is = subst (λ (all : List Moment). IsHauled count all k t) (sym (append-nil before)) is
  hauls_from before (y ∷ rest) t is =
      subst (λ (all : List Moment). IsHauled count all k (fold (at_carry history k) (at_carry history k t y) rest)) (append_assoc before (y ∷ []) rest)
      (hauls_from (before ++ y ∷ []) rest (at_carry history k t y) (record { of = of_carry y t ∙ ap (λ o. has_after k o y) is.of ∙ sym (asks_on count before (y ∷ []) k); low = low_carry y t is.low }))

  pub is_hauled : (told : List Moment) → IsHauled count told k (moves_into history k count told)
  is_hauled told = hauls_from [] told (no_moves (first_chunk count k)) (record { of = refl; low = λ role none. absurd (none-some role none) })

-- An event by which a port handed its ask on

abbrev pub handed_if : History → (place : Option ℕ) → PortTrace → PortTrace
handed_if history None t = t
handed_if history (Some place) t = handed_at (take place history) (slice_get history place) t
