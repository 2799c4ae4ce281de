-- What came last, at the end of the list of what came to mounts.
use Rattle.std.proofs.Common.{◌≡◌, ◌≢◌, ℕ, ◌+◌, ◌≤◌, ◌==◌, ◌&&◌, if◌then◌else◌, List, [], ◌∷◌, ◌++◌, length, Option, Some, None, arith, refl, sym, ap, subst, ◌∙◌, append-nil, length-append}
use Rattle.pf_journal.specs.declared.layouts.Layout.{Layout}
use Rattle.std.specs.List.{cons_option}
use Rattle.std.proofs.lemmas.Bool.{eq-eqb, eqb-false, eqb-true, ne_eqb}
use Rattle.pf_entry.proofs.Cases.{by_test}
use Rattle.pf_volume.specs.Volumes.{Extent}
use Rattle.pf_protocol.specs.Groups.{Answered}
use Rattle.pf_law_positions.specs.Deeds.{Deed}
use Rattle.pf_law_positions.specs.PortDeeds.{no_deed}
use Rattle.pf_law_calls.specs.Lives.{Asks, Begins, CanBe, CanCome, CanComeFrom, Hears, Input, Life, MountTold, all_opened, lived, lives, lives_from, lives_on}
use Rattle.pf_law_events.specs.Events.{MountsAreServed, AreServedFrom, Brings, HandsOn, Happening, InputIsServed, port_event, port_events, events_with, goes, owed_now, mounts_told}
use Rattle.pf_law_homes.specs.Ports.{Hands, PortOwed, Passes, Pending, PortEvent, deed_of, deeds_from, deeds_on, nothing_pending, pending_after, pending_with}
use Rattle.pf_tree.specs.Calls.{FileCall}
use Rattle.pf_law_calls.specs.Spelled.{CanAllBeSpelled, CanInputBeSpelled}
use Rattle.pf_law_calls.specs.Trees.{calls_of}
use Rattle.pf_law_calls.proofs.CallNumbers.{calls_on}
use Rattle.pf_law_runs.specs.pf_law_movers.proofs.Lives.{its_own, not_its_own}
use Rattle.pf_law_mounts.proofs.Known.{deeds_by, owed_of, pending_from}

-- Lists that go on

pub told_more : (hs more : List Happening) → mounts_told (hs ++ more) ≡ mounts_told hs ++ mounts_told more
told_more [] more = refl
told_more (Brings t epoch by answer ∷ hs) more = ap (λ (told : List MountTold). t ∷ told) (told_more hs more)
told_more (HandsOn mount port epoch place ∷ hs) more = told_more hs more

pub lives_more : (ls : ℕ → Life) (told more : List MountTold) → lives_from ls (told ++ more) ≡ lives_from (lives_from ls told) more
lives_more ls [] more = refl
lives_more ls (t ∷ told) more = lives_more (lived ls t) told more

events_more : (ls : ℕ → Life) (hs more : List Happening) → events_with ls (hs ++ more) ≡ events_with ls hs ++ events_with (lives_from ls (mounts_told hs)) more
events_more ls [] more = refl
events_more ls (Brings t epoch by answer ∷ hs) more =
    ap (λ (es : List PortEvent). port_event t.mount (ls t.mount).mount epoch by answer t.input ∷ Passes ∷ es) (events_more (lived ls t) hs more)
events_more ls (HandsOn mount port epoch place ∷ hs) more = ap (λ (es : List PortEvent). Hands mount port epoch place ∷ es) (events_more ls hs more)

pending_more : (pending : Pending) (es more : List PortEvent) → pending_from pending (es ++ more) ≡ pending_from (pending_from pending es) more
pending_more pending [] more = refl
pending_more pending (event ∷ es) more = pending_more (pending_after pending event) es more

deeds_more : (chunk : ℕ) (pending : Pending) (es more : List PortEvent) → deeds_from chunk pending (es ++ more) ≡ deeds_from chunk pending es ++ deeds_from chunk (pending_from pending es) more
deeds_more chunk pending [] more = refl
deeds_more chunk pending (event ∷ es) more = ap (λ (ds : List Deed). deed_of chunk pending event ∷ ds) (deeds_more chunk (pending_after pending event) es more)

come_more : (ls : ℕ → Life) (told more : List MountTold) → CanComeFrom ls told → CanComeFrom (lives_from ls told) more → CanComeFrom ls (told ++ more)
come_more ls [] more first second = second
come_more ls (t ∷ told) more first second = (first.0, come_more (lived ls t) told more first.1 second)

spelled_more : (told more : List MountTold) → CanAllBeSpelled told → CanAllBeSpelled more → CanAllBeSpelled (told ++ more)
spelled_more [] more first second = second
spelled_more (t ∷ told) more first second = (first.0, spelled_more told more first.1 second)

-- an input begins one call at most, and this many
abbrev pub begun_by : Input → ℕ
begun_by (Begins call) = 1
begun_by input = 0

input_calls : (mount n : ℕ) (input : Input) → length (calls_of (record { mount = mount; input = input } ∷ []) n) ≤ begun_by input
input_calls mount n (Begins call) = by_test (n == mount) (λ b. length (cons_option (if b then Some call else None) []) ≤ 1) (λ _. omega arith) (λ _. omega arith)
input_calls mount n (Asks port) = by_test (n == mount) (λ b. length (cons_option {X = FileCall} (if b then None else None) []) ≤ 0) (λ _. omega arith) (λ _. omega arith)
input_calls mount n (Hears port reply) = by_test (n == mount) (λ b. length (cons_option {X = FileCall} (if b then None else None) []) ≤ 0) (λ _. omega arith) (λ _. omega arith)

calls_more : (told : List MountTold) (t : MountTold) (n : ℕ) → length (calls_of (told ++ t ∷ []) n) ≤ length (calls_of told n) + begun_by t.input
calls_more told t n =
    let all = ap length (calls_on told (t ∷ []) n) in
    let both = length-append (calls_of told n) (calls_of (t ∷ []) n) in
    let one = input_calls t.mount n t.input in omega (arith, all, both, one)

served_more : (layout : Layout) (e : Extent) (ls : ℕ → Life) (pending : Pending) (hs more : List Happening) → AreServedFrom layout e ls pending hs
    → AreServedFrom layout e (lives_from ls (mounts_told hs)) (pending_from pending (events_with ls hs)) more → AreServedFrom layout e ls pending (hs ++ more)
served_more layout e ls pending [] more first second = second
served_more layout e ls pending (Brings t epoch by answer ∷ hs) more first second =
    (first.0, served_more layout e (lived ls t) (pending_after pending (port_event t.mount (ls t.mount).mount epoch by answer t.input)) hs more first.1 second)
served_more layout e ls pending (HandsOn mount port epoch place ∷ hs) more first second = served_more layout e ls pending hs more first second

-- What is pending at a port

pub pending_here : (pending : Pending) (m port : ℕ) (o : Option PortOwed) → pending_with pending m port o m port ≡ o
pending_here pending m port o = ap (λ b. if b && (port == port) then o else pending m port) (eq-eqb m m refl) ∙ its_own port port o (pending m port) refl

pub pending_there : (pending : Pending) (m port other : ℕ) (o : Option PortOwed) → other ≢ port → pending_with pending m port o m other ≡ pending m other
pending_there pending m port other o apart = ap (λ b. if b && (other == port) then o else pending m other) (eq-eqb m m refl) ∙ not_its_own other port o (pending m other) apart

pending_elsewhere : (pending : Pending) (m port n other : ℕ) (o : Option PortOwed) → n ≢ m → pending_with pending m port o n other ≡ pending n other
pending_elsewhere pending m port n other o apart = ap (λ b. if b && (other == port) then o else pending n other) (ne_eqb n m apart)

-- a deed at the chunk of its ask is nothing at others
pub deed_there : (chunk of one : ℕ) (deed : Deed) (rest : List Deed) → of ≡ chunk → (if one == chunk then (deed ∷ rest) else (no_deed ∷ rest)) ≡ (if of == one then deed else no_deed) ∷ rest
deed_there chunk of one deed rest same =
    by_test (one == chunk) (λ b. (if b then (deed ∷ rest) else (no_deed ∷ rest)) ≡ (if of == one then deed else no_deed) ∷ rest)
    (λ here. ap (λ (y : Deed). y ∷ rest) (sym (its_own of one deed no_deed (same ∙ sym (eqb-true one chunk here)))))
    (λ away. ap (λ (y : Deed). y ∷ rest) (sym (not_its_own of one deed no_deed (λ at. eqb-false one chunk away (sym at ∙ same)))))

module _ (layout : Layout) (e : Extent) (hs : List Happening) where
  abbrev ls : ℕ → Life
  ls = lives layout e (mounts_told hs)

  abbrev owed : Pending
  owed = owed_of layout e hs

  owed_then : (x : Happening) → owed_of layout e (hs ++ x ∷ []) ≡ pending_from owed (events_with ls (x ∷ []))
  owed_then x = ap (pending_from nothing_pending) (events_more (all_opened layout e) hs (x ∷ [])) ∙ pending_more nothing_pending (port_events layout e hs) (events_with ls (x ∷ []))

  -- a happening has these deeds
  pub deeds_then : (x : Happening) (chunk : ℕ) → deeds_on (port_events layout e (hs ++ x ∷ [])) chunk ≡ deeds_on (port_events layout e hs) chunk ++ deeds_by layout e hs x chunk
  deeds_then x chunk = ap (deeds_from chunk nothing_pending) (events_more (all_opened layout e) hs (x ∷ [])) ∙ deeds_more chunk nothing_pending (port_events layout e hs) (events_with ls (x ∷ []))

  -- An input comes

  module _ (t : MountTold) (epoch by : ℕ) (answer : Answered) where
    abbrev coming : List Happening
    coming = Brings t epoch by answer ∷ []

    abbrev event : PortEvent
    event = port_event t.mount (ls t.mount).mount epoch by answer t.input

    lives_come : lives layout e (mounts_told (hs ++ coming)) ≡ lived ls t
    lives_come = ap (lives layout e) (told_more hs coming) ∙ lives_more (all_opened layout e) (mounts_told hs) (t ∷ [])

    -- to its mount
    pub life_comes : lives layout e (mounts_told (hs ++ coming)) t.mount ≡ lives_on (ls t.mount) t.input
    life_comes = ap (λ (f : ℕ → Life). f t.mount) lives_come ∙ its_own t.mount t.mount (lives_on (ls t.mount) t.input) (ls t.mount) refl

    pub owed_comes : (port : ℕ) → owed_of layout e (hs ++ coming) t.mount port ≡ pending_after owed event t.mount port
    owed_comes port = ap (λ (f : Pending). f t.mount port) (owed_then (Brings t epoch by answer))

    -- and to no other
    pub other_life : (n : ℕ) → n ≢ t.mount → lives layout e (mounts_told (hs ++ coming)) n ≡ ls n
    other_life n apart = ap (λ (f : ℕ → Life). f n) lives_come ∙ not_its_own n t.mount (lives_on (ls n) t.input) (ls n) apart

    pub other_owed : (n port : ℕ) → n ≢ t.mount → owed_of layout e (hs ++ coming) n port ≡ owed n port
    other_owed n port apart = ap (λ (f : Pending). f n port) (owed_then (Brings t epoch by answer)) ∙ of_input t.input
      where
        of_goes : (at : ℕ) (o : Option PortOwed) → pending_after owed (goes t.mount at o) n port ≡ owed n port
        of_goes at None = refl
        of_goes at (Some its) = pending_elsewhere owed t.mount at n port (Some its) apart

        of_input : (input : Input) → pending_after owed (port_event t.mount (ls t.mount).mount epoch by answer input) n port ≡ owed n port
        of_input (Begins call) = refl
        of_input (Asks at) = of_goes at (owed_now (ls t.mount).mount at)
        of_input (Hears at reply) = pending_elsewhere owed t.mount at n port None apart

    pub spelled_comes : CanInputBeSpelled t.input → CanAllBeSpelled (mounts_told hs) → CanAllBeSpelled (mounts_told (hs ++ coming))
    spelled_comes its are = subst (λ (told : List MountTold). CanAllBeSpelled told) (sym (told_more hs coming)) (spelled_more (mounts_told hs) (t ∷ []) are (its, tt))

    pub begins_comes : (n : ℕ) → length (calls_of (mounts_told (hs ++ coming)) n) ≤ length (calls_of (mounts_told hs) n) + begun_by t.input
    begins_comes n = subst (λ (told : List MountTold). length (calls_of told n) ≤ length (calls_of (mounts_told hs) n) + begun_by t.input) (sym (told_more hs coming)) (calls_more (mounts_told hs) t n)

    pub answered_comes : MountsAreServed layout e hs → CanCome ls t → InputIsServed layout e owed t.mount (ls t.mount).mount answer t.input → MountsAreServed layout e (hs ++ coming)
    answered_comes are can its = record {
      can_be = subst (λ (told : List MountTold). CanBe layout e told) (sym (told_more hs coming)) (come_more (all_opened layout e) (mounts_told hs) (t ∷ []) are.can_be (can, tt));
      served = served_more layout e (all_opened layout e) nothing_pending hs coming are.served (its, tt);
    }

  -- A port hands something on

  module _ (mount port epoch place : ℕ) where
    abbrev handing : List Happening
    handing = HandsOn mount port epoch place ∷ []

    told_same : mounts_told (hs ++ handing) ≡ mounts_told hs
    told_same = told_more hs handing ∙ append-nil (mounts_told hs)

    pub lives_same : (n : ℕ) → lives layout e (mounts_told (hs ++ handing)) n ≡ ls n
    lives_same n = ap (λ (told : List MountTold). lives layout e told n) told_same

    pub owed_same : (n other : ℕ) → owed_of layout e (hs ++ handing) n other ≡ owed n other
    owed_same n other = ap (λ (f : Pending). f n other) (owed_then (HandsOn mount port epoch place))

    pub spelled_hands : CanAllBeSpelled (mounts_told hs) → CanAllBeSpelled (mounts_told (hs ++ handing))
    spelled_hands are = subst (λ (told : List MountTold). CanAllBeSpelled told) (sym told_same) are

    pub begins_hands : (n : ℕ) → length (calls_of (mounts_told (hs ++ handing)) n) ≤ length (calls_of (mounts_told hs) n) + 0
    begins_hands n = let same = ap (λ (told : List MountTold). length (calls_of told n)) told_same in omega (arith, same)

    pub answered_hands : MountsAreServed layout e hs → MountsAreServed layout e (hs ++ handing)
    answered_hands are = record {
      can_be = subst (λ (told : List MountTold). CanBe layout e told) (sym told_same) are.can_be;
      served = served_more layout e (all_opened layout e) nothing_pending hs handing are.served tt;
    }
