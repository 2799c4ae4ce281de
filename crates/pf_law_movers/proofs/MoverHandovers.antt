-- What the mover's ports are told to have handed on: each by an event of its own, for the ask that the mover had then.
use Rattle.std.proofs.Common.{◌≡◌, ℕ, suc, ◌==◌, ◌&&◌, if◌then◌else◌, inl, inr, List, [], ◌∷◌, ◌++◌, length, take, Option, Some, None, slice_get, arith, refl, sym, ap, subst, ◌∙◌}
use Rattle.std.specs.List.{fold}
use Rattle.std.proofs.lemmas.Bool.{eqb-true}
use Rattle.std.proofs.lemmas.Grind.{fold-append}
use Rattle.std.proofs.lemmas.List.{take-append-le, length-append}
use Rattle.std.proofs.lemmas.Option.{none-some}
use Rattle.std.proofs.Math.Seq.{take-append_seam, take_all}
use Rattle.pf_entry.proofs.Cases.{by_test}
use Rattle.pf_entry.specs.Lists.{Every}
use Rattle.pf_entry.specs.declared.ops.Op.{Op}
use Rattle.pf_protocol.specs.declared.answers.Answer.{Answer}
use Rattle.pf_protocol.specs.declared.events.Event.{Event}
use Rattle.pf_protocol.specs.declared.events.Event.TheVariants as events
use Rattle.pf_protocol.specs.declared.events.Happening.{Happening}
use Rattle.pf_protocol.specs.Histories.{History}
use Rattle.pf_protocol.specs.Ports.{Submission}
use Rattle.pf_law_movers.specs.pf_law_ports.specs.Calls.{Fetching}
use Rattle.pf_move.specs.declared.mover.MoverAsk.{MoverAsk}
use Rattle.pf_move.specs.declared.mover.MoverAsk.TheVariants.{Reading, Writing}
use Rattle.pf_move.specs.declared.mover.MoveNext.{MoveNext}
use Rattle.pf_move.specs.declared.mover.MoveNext.TheVariants.{Read, Write, Switch}
use Rattle.pf_law_movers.specs.pf_chunk.specs.Runs.{mover_port}
use Rattle.pf_law_movers.specs.pf_world_moments.specs.Moments.{Carries, Hands, Moment, Moves, Writes, Acts}
use Rattle.pf_law_movers.specs.Pasts.{MoverTrace, PortTrace, at_carry, carrying, first_chunk, handed_at, handed_by, is_some_of, mover_trace, moves_into, no_moves, no_trace, mover_numbered, trace_in, with_trace_of_port}
use Rattle.pf_law_movers.proofs.Lives.{both_tests, not_its_own}
use Rattle.pf_law_movers.proofs.ListPlaces.{at_seam, by_ends, get_either, get_first, only_one, some_within}
use Rattle.pf_law_movers.proofs.PortTraces.{IsElsewhere, moves_more, test_same}

-- numbers are nothing to what was handed on
numbered_writes : (count : ℕ) (role : Option MoverAsk) (next : MoveNext) (t : MoverTrace) → ((mover_numbered count role next t).written.writes ≡ t.written.writes) × ((mover_numbered count role next t).read.reads ≡ t.read.reads)
numbered_writes count None next t = (refl, refl)
numbered_writes count (Some Reading) (Read span) t = (refl, refl)
numbered_writes count (Some Reading) (Write span sectors) t = (refl, refl)
numbered_writes count (Some Reading) Switch t = (refl, refl)
numbered_writes count (Some Writing) (Read span) t = (refl, refl)
numbered_writes count (Some Writing) (Write span sectors) t = (refl, refl)
numbered_writes count (Some Writing) Switch t = (refl, refl)

carrying_writes : (t : MoverTrace) (chunk : ℕ) (next : MoveNext) → ((carrying t chunk next).written.writes ≡ t.written.writes) × ((carrying t chunk next).read.reads ≡ t.read.reads)
carrying_writes t chunk next =
    let more : MoverTrace = record t { count = suc t.count } in
    by_test (chunk == t.chunk) (λ b. ((if b then mover_numbered (suc t.count) t.role next more else t).written.writes ≡ t.written.writes) × ((if b then mover_numbered (suc t.count) t.role next more else t).read.reads ≡ t.read.reads))
    (λ _. numbered_writes (suc t.count) t.role next more) (λ _. (refl, refl))

module _ (history : History) (k count : ℕ) where
  abbrev into : List Moment → MoverTrace
  into told = moves_into history k count told

  -- by this event, told by a moment at which the port was in use, for the ask of this number
  pub record WasCarriedOn (told : List Moment) (role : MoverAsk) (number : ℕ) (before : History) (event : Event) (answer : Answer) : Type 0 where
    pub moment : ℕ
    pub place : ℕ
    pub at : slice_get told moment ≡ Some (Hands mover_port k place)
    pub is : slice_get history place ≡ Some (record { event = event; answer = answer })
    pub since : before ≡ take place history
    pub in_role : (moves_into history k count (take moment told)).role ≡ Some role
    pub asked : number ≡ (mover_trace history k role count (take moment told)).asks

  pub record IsCarriedWrite (told : List Moment) (j : ℕ) (a : Submission) : Type 0 where
    pub handed : WasCarriedOn told Writing a.write a.before (events.Submit a.server a.op) a.answer
    pub stands : slice_get (mover_trace history k Writing count (take (suc handed.moment) told)).writes j ≡ Some a

  abbrev AllCarriedOn : List Moment → MoverTrace → Type 0
  AllCarriedOn told t =
      ((j : ℕ) (a : Submission) → slice_get t.written.writes j ≡ Some a → IsCarriedWrite told j a)
      × ((j : ℕ) (f : Fetching) → slice_get t.read.reads j ≡ Some f → WasCarriedOn told Reading f.ask f.before (events.Fetch f.server f.range) f.answer)

  abbrev handed_still : (told : List Moment) (y : Moment) (role : MoverAsk) (number : ℕ) (before : History) (event : Event) (answer : Answer) → WasCarriedOn told role number before event answer → WasCarriedOn (told ++ y ∷ []) role number before event answer
  handed_still told y role number before event answer w =
      let low = some_within told w.moment (Hands mover_port k w.place) w.at in
      let part = take-append-le w.moment told (y ∷ []) (omega (arith, low)) in record {
        moment = w.moment;
        place = w.place;
        at = get_first told (y ∷ []) w.moment (Hands mover_port k w.place) w.at;
        is = w.is;
        since = w.since;
        in_role = ap (λ (b : List Moment). (moves_into history k count b).role) part ∙ w.in_role;
        asked = w.asked ∙ ap (λ (b : List Moment). (mover_trace history k role count b).asks) (sym part);
      }

  write_still : (told : List Moment) (y : Moment) (j : ℕ) (a : Submission) → IsCarriedWrite told j a → IsCarriedWrite (told ++ y ∷ []) j a
  write_still told y j a w =
      let low = some_within told w.handed.moment (Hands mover_port k w.handed.place) w.handed.at in record {
        handed = handed_still told y Writing a.write a.before (events.Submit a.server a.op) a.answer w.handed;
        stands = ap (λ (b : List Moment). slice_get (mover_trace history k Writing count b).writes j) (take-append-le (suc w.handed.moment) told (y ∷ []) (omega (arith, low))) ∙ w.stands;
      }

  writes_still : (told : List Moment) (y : Moment) (t : MoverTrace) → AllCarriedOn told t → (j : ℕ) (a : Submission) → slice_get t.written.writes j ≡ Some a → IsCarriedWrite (told ++ y ∷ []) j a
  writes_still told y t all j a at = write_still told y j a (all.0 j a at)

  reads_still : (told : List Moment) (y : Moment) (t : MoverTrace) → AllCarriedOn told t → (j : ℕ) (f : Fetching) → slice_get t.read.reads j ≡ Some f → WasCarriedOn (told ++ y ∷ []) Reading f.ask f.before (events.Fetch f.server f.range) f.answer
  reads_still told y t all j f at = handed_still told y Reading f.ask f.before (events.Fetch f.server f.range) f.answer (all.1 j f at)

  all_still : (told : List Moment) (y : Moment) (t : MoverTrace) → AllCarriedOn told t → AllCarriedOn (told ++ y ∷ []) t
  all_still told y t all = (writes_still told y t all, reads_still told y t all)

  module _ (told : List Moment) (place : ℕ) (so_far : AllCarriedOn told (into told)) where
    abbrev t : MoverTrace
    t = into told

    abbrev now : List Moment
    now = told ++ Hands mover_port k place ∷ []

    abbrev here : (role : MoverAsk) → t.role ≡ Some role → (event : Event) (answer : Answer) → slice_get history place ≡ Some (record { event = event; answer = answer }) → WasCarriedOn now role (trace_in t role).asks (take place history) event answer
    here role in_use event answer is =
        let part = take-append_seam told (Hands mover_port k place ∷ []) in record {
          moment = length told;
          place = place;
          at = at_seam told [] (Hands mover_port k place) (length told) refl;
          is = is;
          since = refl;
          in_role = ap (λ (b : List Moment). (moves_into history k count b).role) part ∙ in_use;
          asked = ap (λ (b : List Moment). (mover_trace history k role count b).asks) (sym part);
        }

    whole_now : take (suc (length told)) now ≡ now
    whole_now = take_all (suc (length told)) now (omega (arith, length-append told (Hands mover_port k place ∷ [])))

    changed : (role : MoverAsk) → t.role ≡ Some role → at_carry history k t (Hands mover_port k place) ≡ with_trace_of_port (handed_at (take place history) (slice_get history place)) (Some role) t
    changed role in_use =
        test_same mover_port mover_port k k (with_trace_of_port (handed_at (take place history) (slice_get history place)) t.role t) t refl refl
        ∙ ap (λ r. with_trace_of_port (handed_at (take place history) (slice_get history place)) r t) in_use

    abbrev its_write : (server : ℕ) (op : Op) (answer : Answer) → Submission
    its_write server op answer = record { write = t.written.asks; before = take place history; server = server; op = op; answer = answer }

    new_write : t.role ≡ Some Writing → (j : ℕ) (a : Submission) (server : ℕ) (op : Op) (answer : Answer) → slice_get history place ≡ Some (record { event = events.Submit server op; answer = answer })
        → (i : ℕ) → slice_get (its_write server op answer ∷ []) i ≡ Some a → slice_get (t.written.writes ++ its_write server op answer ∷ []) j ≡ Some a → IsCarriedWrite now j a
    new_write in_use j a server op answer is i at new =
        let it : Submission = its_write server op answer in
        let same : it ≡ a = (only_one it a i at).0 in
        let traced : (into now).written ≡ handed_by (take place history) (events.Submit server op) answer t.written =
        ap (λ (x : MoverTrace). x.written) (moves_more history k count told (Hands mover_port k place) ∙ changed Writing in_use) ∙ ap (λ h. handed_at (take place history) h t.written) is in
        subst (IsCarriedWrite now j) same (record {
          handed = here Writing in_use (events.Submit server op) answer is;
          stands =
              ap (λ (b : List Moment). slice_get (mover_trace history k Writing count b).writes j) whole_now
              ∙ ap (λ (x : PortTrace). slice_get x.writes j) traced ∙ new ∙ ap (λ x. Some x) (sym same);
        })

    written_by : t.role ≡ Some Writing → (event : Event) (answer : Answer) → slice_get history place ≡ Some (record { event = event; answer = answer })
        → (j : ℕ) (a : Submission) → slice_get (handed_by (take place history) event answer t.written).writes j ≡ Some a → IsCarriedWrite now j a
    written_by in_use (events.Submit server op) answer is j a at = elim (get_either t.written.writes (its_write server op answer ∷ []) j a at) [
      | inl old ↦ writes_still told (Hands mover_port k place) t so_far j a old
      | inr new ↦ new_write in_use j a server op answer is new.0 new.1 at
    ]
    written_by in_use (events.Fetch server range) answer is j a at = writes_still told (Hands mover_port k place) t so_far j a at
    written_by in_use event answer is j a at = writes_still told (Hands mover_port k place) t so_far j a at

    read_by : t.role ≡ Some Reading → (event : Event) (answer : Answer) → slice_get history place ≡ Some (record { event = event; answer = answer })
        → (j : ℕ) (f : Fetching) → slice_get (handed_by (take place history) event answer t.read).reads j ≡ Some f → WasCarriedOn now Reading f.ask f.before (events.Fetch f.server f.range) f.answer
    read_by in_use (events.Submit server op) answer is j f at = reads_still told (Hands mover_port k place) t so_far j f at
    read_by in_use (events.Fetch server range) answer is j f at =
        let it : Fetching = record { ask = t.read.asks; before = take place history; server = server; range = range; answer = answer } in
        elim (get_either t.read.reads (it ∷ []) j f at) [
          | inl old ↦ reads_still told (Hands mover_port k place) t so_far j f old
          | inr new ↦ subst (λ (x : Fetching). WasCarriedOn now Reading x.ask x.before (events.Fetch x.server x.range) x.answer) (only_one it f new.0 new.1).0 (here Reading in_use (events.Fetch server range) answer is)
        ]
    read_by in_use event answer is j f at = reads_still told (Hands mover_port k place) t so_far j f at

    written_at : t.role ≡ Some Writing → (h : Option Happening) → slice_get history place ≡ h → (j : ℕ) (a : Submission) → slice_get (handed_at (take place history) h t.written).writes j ≡ Some a → IsCarriedWrite now j a
    written_at in_use None is j a at = writes_still told (Hands mover_port k place) t so_far j a at
    written_at in_use (Some h) is j a at = written_by in_use h.event h.answer is j a at

    read_at : t.role ≡ Some Reading → (h : Option Happening) → slice_get history place ≡ h → (j : ℕ) (f : Fetching) → slice_get (handed_at (take place history) h t.read).reads j ≡ Some f → WasCarriedOn now Reading f.ask f.before (events.Fetch f.server f.range) f.answer
    read_at in_use None is j f at = reads_still told (Hands mover_port k place) t so_far j f at
    read_at in_use (Some h) is j f at = read_by in_use h.event h.answer is j f at

    by_role : (role : Option MoverAsk) → t.role ≡ role → AllCarriedOn now (with_trace_of_port (handed_at (take place history) (slice_get history place)) role t)
    by_role None in_use = all_still told (Hands mover_port k place) t so_far
    by_role (Some Reading) in_use = (writes_still told (Hands mover_port k place) t so_far, read_at in_use (slice_get history place) refl)
    by_role (Some Writing) in_use = (written_at in_use (slice_get history place) refl, reads_still told (Hands mover_port k place) t so_far)

  one_carried : (told : List Moment) (y : Moment) → AllCarriedOn told (into told) → AllCarriedOn (told ++ y ∷ []) (at_carry history k (into told) y)
  one_carried told (Hands n group place) so_far =
      let t = into told in
      by_test (n == mover_port && group == k) (λ b. AllCarriedOn (told ++ Hands n group place ∷ []) (if b then with_trace_of_port (handed_at (take place history) (slice_get history place)) t.role t else t))
      (λ both.
      let is = both_tests (n == mover_port) (group == k) both in
      subst (λ (x : Moment). AllCarriedOn (told ++ x ∷ []) (with_trace_of_port (handed_at (take place history) (slice_get history place)) t.role t))
      (ap (λ i. Hands i k place) (sym (eqb-true n mover_port is.0)) ∙ ap (λ i. Hands n i place) (sym (eqb-true group k is.1)))
      (by_role told place so_far t.role refl))
      (λ _. all_still told (Hands n group place) t so_far)
  one_carried told (Moves chunk to) so_far =
      let t = into told in
      let y : Moment = Moves chunk to in
      let made : MoverTrace = record t { of = Some chunk; chunk = chunk; role = Some Writing; count = 0; written = no_trace } in
      let left : MoverTrace = record t { of = None; chunk = chunk; role = Some Reading; count = 0; read = no_trace } in
      let other : MoverTrace = record t { role = None } in
      by_test (to == k) (λ b. AllCarriedOn (told ++ y ∷ []) (if b then made else if is_some_of t.of chunk then left else other))
      (λ _. (λ j a at. absurd (none-some a at), reads_still told y t so_far))
      (λ _. by_test (is_some_of t.of chunk) (λ b. AllCarriedOn (told ++ y ∷ []) (if b then left else other)) (λ _. (writes_still told y t so_far, λ j f at. absurd (none-some f at))) (λ _. all_still told y t so_far))
  one_carried told (Carries chunk heard next) so_far =
      let t = into told in
      let same = carrying_writes t chunk next in (
        λ j a at. writes_still told (Carries chunk heard next) t so_far j a (ap (λ (l : List Submission). slice_get l j) (sym same.0) ∙ at),
        λ j f at. reads_still told (Carries chunk heard next) t so_far j f (ap (λ (l : List Fetching). slice_get l j) (sym same.1) ∙ at),
      )
  one_carried told (Writes text) so_far = all_still told (Writes text) (into told) so_far
  one_carried told (Acts who act) so_far = all_still told (Acts who act) (into told) so_far

  pub all_carried_on : (told : List Moment) → AllCarriedOn told (moves_into history k count told)
  all_carried_on told = by_ends (λ (all : List Moment). AllCarriedOn all (moves_into history k count all)) (λ j a at. absurd (none-some a at), λ j f at. absurd (none-some f at))
      (λ all y so_far. subst (AllCarriedOn (all ++ y ∷ [])) (sym (moves_more history k count all y)) (one_carried all y so_far)) told

  -- What was written stays, as long as the group is not made anew

  abbrev Keeps : PortTrace → PortTrace → Type 0
  Keeps t next = (j : ℕ) (a : Submission) → slice_get t.writes j ≡ Some a → slice_get next.writes j ≡ Some a

  event_keeps : (before : History) (event : Event) (answer : Answer) (t : PortTrace) → Keeps t (handed_by before event answer t)
  event_keeps before (events.Submit server op) answer t = λ j a at. get_first t.writes (record { write = t.asks; before = before; server = server; op = op; answer = answer } ∷ []) j a at
  event_keeps before (events.Fetch server range) answer t = λ j a at. at
  event_keeps before event answer t = λ j a at. at

  place_keeps : (before : History) (h : Option Happening) (t : PortTrace) → Keeps t (handed_at before h t)
  place_keeps before None t = λ j a at. at
  place_keeps before (Some h) t = event_keeps before h.event h.answer t

  port_keeps : (before : History) (h : Option Happening) (role : Option MoverAsk) (t : MoverTrace) → Keeps t.written (with_trace_of_port (handed_at before h) role t).written
  port_keeps before h None t = λ j a at. at
  port_keeps before h (Some Reading) t = λ j a at. at
  port_keeps before h (Some Writing) t = place_keeps before h t.written

  moment_keeps : (y : Moment) (t : MoverTrace) → IsElsewhere k y → Keeps t.written (at_carry history k t y).written
  moment_keeps (Hands n group place) t _ =
      by_test (n == mover_port && group == k) (λ b. Keeps t.written (if b then with_trace_of_port (handed_at (take place history) (slice_get history place)) t.role t else t).written)
      (λ _. port_keeps (take place history) (slice_get history place) t.role t) (λ _. λ j a at. at)
  moment_keeps (Moves chunk to) t away =
      let made : MoverTrace = record t { of = Some chunk; chunk = chunk; role = Some Writing; count = 0; written = no_trace } in
      let left : MoverTrace = record t { of = None; chunk = chunk; role = Some Reading; count = 0; read = no_trace } in
      let other : MoverTrace = record t { role = None } in
      subst (λ (x : MoverTrace). Keeps t.written x.written) (sym (not_its_own to k made (if is_some_of t.of chunk then left else other) away))
      (by_test (is_some_of t.of chunk) (λ b. Keeps t.written (if b then left else other).written) (λ _. λ j a at. at) (λ _. λ j a at. at))
  moment_keeps (Carries chunk heard next) t _ = λ j a at. ap (λ (l : List Submission). slice_get l j) (carrying_writes t chunk next).0 ∙ at
  moment_keeps (Writes text) t _ = λ j a at. at
  moment_keeps (Acts who act) t _ = λ j a at. at

  keeps_from : (more : List Moment) (t : MoverTrace) → Every (IsElsewhere k) more → Keeps t.written (fold (at_carry history k) t more).written
  keeps_from [] t _ = λ j a at. at
  keeps_from (y ∷ more) t away = λ j a at. keeps_from more (at_carry history k t y) away.1 j a (moment_keeps y t away.0 j a at)

  pub carried_writes_stay : (told more : List Moment) → Every (IsElsewhere k) more → Keeps (mover_trace history k Writing count told) (mover_trace history k Writing count (told ++ more))
  carried_writes_stay told more away =
      subst (λ (x : MoverTrace). Keeps (mover_trace history k Writing count told) x.written) (sym (fold-append (at_carry history k) (no_moves (first_chunk count k)) told more))
      (keeps_from more (moves_into history k count told) away)

  -- what was handed on by a port in use is among its writes from then on
  pub among_carried : (told rest : List Moment) (place server : ℕ) (op : Op) (answer : Answer) → slice_get history place ≡ Some (record { event = events.Submit server op; answer = answer }) → (moves_into history k count told).role ≡ Some Writing → Every (IsElsewhere k) rest
      → let t = mover_trace history k Writing count told in
      slice_get (mover_trace history k Writing count (told ++ Hands mover_port k place ∷ rest)).writes (length t.writes) ≡ Some (record { write = t.asks; before = take place history; server = server; op = op; answer = answer })
  among_carried told rest place server op answer is in_use away =
      let t = moves_into history k count told in
      let y : Moment = Hands mover_port k place in
      let it : Submission = record { write = t.written.asks; before = take place history; server = server; op = op; answer = answer } in
      let changed : at_carry history k t y ≡ with_trace_of_port (handed_at (take place history) (slice_get history place)) (Some Writing) t =
      test_same mover_port mover_port k k (with_trace_of_port (handed_at (take place history) (slice_get history place)) t.role t) t refl refl
      ∙ ap (λ r. with_trace_of_port (handed_at (take place history) (slice_get history place)) r t) in_use in
      let here : slice_get (at_carry history k t y).written.writes (length t.written.writes) ≡ Some it =
      ap (λ (x : MoverTrace). slice_get x.written.writes (length t.written.writes)) changed ∙ ap (λ h. slice_get (handed_at (take place history) h t.written).writes (length t.written.writes)) is
      ∙ at_seam t.written.writes [] it (length t.written.writes) refl in
      subst (λ (x : MoverTrace). slice_get x.written.writes (length t.written.writes) ≡ Some it) (sym (fold-append (at_carry history k) (no_moves (first_chunk count k)) told (y ∷ rest)))
      (keeps_from rest (at_carry history k t y) away (length t.written.writes) it here)
