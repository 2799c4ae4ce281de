-- What lines ask of one chunk.
use Rattle.std.proofs.Common.{[], ◌≡◌, ℕ, ◌<◌, Bool, true, false, IfSome, length, if◌then◌else◌, List, Option, Some, None, slice_get, refl, sym, ap, subst, ◌∙◌, arith}
use Rattle.std.proofs.lemmas.Bool.Decides.{nat_tests}
use Rattle.std.proofs.lemmas.Option.{same_Some}
use Rattle.pf_script.specs.declared.command.Command.{Command}
use Rattle.pf_script.specs.declared.command.Command.TheVariants as commands
use Rattle.pf_script.specs.declared.named.NamedVolume.{NamedVolume}
use Rattle.pf_script.specs.Lines.{group_named}
use Rattle.pf_entry.proofs.Cases.{by_test}
use Rattle.pf_report.specs.Refusals.{line_refusal_text}
use Rattle.pf_report.specs.declared.refusals.LineRefusal.TheVariants as refusals
use Rattle.pf_live_session.specs.pf_group.specs.declared.event.GroupEvent.TheVariants as events
use Rattle.pf_live_session.specs.pf_group_rounds.specs.Halts.{Halt}
use Rattle.pf_live_session.specs.pf_chunk.specs.declared.asked.LineAsk.{LineAsk}
use Rattle.pf_live_session.specs.pf_chunk.specs.declared.asked.LineAsk.TheVariants as asks
use Rattle.pf_live_session.specs.pf_chunk.specs.Asked.{ChunkMayAsk, asked_happened, fetch_ask, no_range_of, submit_ask}
use Rattle.pf_live_session.specs.pf_chunk.specs.Asking.{fetches, is_range, chunk_submits}
use Rattle.pf_live_session.specs.pf_chunk.specs.Steps.{ChunkEvent}
use Rattle.pf_world.specs.declared.kind.Kind.TheVariants.{Raw}
use Rattle.pf_world.specs.Worlds.{WorldTold, World, at_chunk, said_only}
use Rattle.pf_world.specs.Lines.{range_asked, kind_decided, is_made, kind_after, line_told, no_event_of, run_told, submit_told, submits_as, with_kind}
use Rattle.pf_world.specs.Views.{WorldIs}
use Rattle.pf_world.specs.Asked.{IsAllowed, asked_by_line}
use Rattle.pf_world.specs.Headline.{is_live}
use Rattle.pf_world.specs.Steps.{LineEnds, IsOfMade, LineIsWithin, MayRun, StopsIn, moves_after}

-- what a line asks of a chunk
abbrev pub event_in : LineAsk → ChunkEvent
event_in a halts c = asked_happened halts a c

abbrev PairOf : Type 0
PairOf = ℕ × LineAsk

some_none : {X : Type 0} (x : X) → Some x ≡ None → ⊥
some_none x is = cc

none_is_none : (p : PairOf) → Some p ≡ None → ⊥
none_is_none p is = some_none p is

-- what is asked for, where its numbers are a range, or are none

abbrev told_by : List Halt → World → (number : ℕ) → Option ℕ → PairOf → WorldTold
told_by halts w number None p = at_chunk halts w number p.0 (event_in p.1 halts)
told_by halts w number (Some server) p = no_event_of w number server (slice_get w.volume.chunks p.0)

told_from : (halts : List Halt) (w : World) (number : ℕ) (p q : PairOf) → Some p ≡ Some q → told_by halts w number (no_range_of q.1) q ≡ told_by halts w number (no_range_of p.1) p
told_from halts w number p q is = ap (λ (r : PairOf). told_by halts w number (no_range_of r.1) r) (sym (same_Some p q is))

submit_ranged : (halts : List Halt) (w : World) (number chunk server first byte count : ℕ) → range_asked halts w number chunk server first count (chunk_submits halts server first byte count) ≡ told_by halts w number (no_range_of (submit_ask server first byte count)) (chunk, submit_ask server first byte count)
submit_ranged halts w number chunk server first byte count =
    let ask : LineAsk = asks.Submit server (record { first = first; count = count }) byte in
    let by : Bool → LineAsk = λ b. if b then ask else asks.NoRange server in
    by_test (is_range first count) (λ b. (if b then at_chunk halts w number chunk (chunk_submits halts server first byte count) else no_event_of w number server (slice_get w.volume.chunks chunk)) ≡ told_by halts w number (no_range_of (by b)) (chunk, by b)) (λ _. refl) (λ _. refl)

fetch_ranged : (halts : List Halt) (w : World) (number chunk server first count : ℕ) → range_asked halts w number chunk server first count (fetches halts server first count) ≡ told_by halts w number (no_range_of (fetch_ask server first count)) (chunk, fetch_ask server first count)
fetch_ranged halts w number chunk server first count =
    let ask : LineAsk = asks.Fetch server (record { first = first; count = count }) in
    let by : Bool → LineAsk = λ b. if b then ask else asks.NoRange server in
    by_test (is_range first count) (λ b. (if b then at_chunk halts w number chunk (fetches halts server first count) else no_event_of w number server (slice_get w.volume.chunks chunk)) ≡ told_by halts w number (no_range_of (by b)) (chunk, by b)) (λ _. refl) (λ _. refl)

allowed_world : (w : World) → w.kind ≡ Some Raw → with_kind w Raw ≡ w
allowed_world w is = ap (λ k. let v : World = record w { kind = k } in v) (sym is)

submit_allowed : (halts : List Halt) (w : World) (number chunk server first byte count : ℕ) → w.kind ≡ Some Raw → submit_told halts w number chunk server first byte count ≡ range_asked halts w number chunk server first count (chunk_submits halts server first byte count)
submit_allowed halts w number chunk server first byte count is =
    ap (λ k. submits_as (kind_decided k Raw) halts (with_kind w (kind_decided k Raw)) number chunk server first byte count) is
    ∙ ap (λ v. range_asked halts v number chunk server first count (chunk_submits halts server first byte count)) (allowed_world w is)

pub asked_by : (command : Command) (g : ℕ) (a : LineAsk) → Some (g, a) ≡ asked_by_line command → (halts : List Halt) (w : World) (number : ℕ) → IsAllowed w.kind command → run_told halts w number command ≡ told_by halts w number (no_range_of a) (g, a)
asked_by (commands.Submit h i s b n) g a is halts w number allowed =
    submit_allowed halts w number h i s b n allowed ∙ submit_ranged halts w number h i s b n ∙ told_from halts w number (g, a) (h, submit_ask i s b n) is
asked_by (commands.Fetch h i s n) g a is halts w number allowed =
    fetch_ranged halts w number h i s n ∙ told_from halts w number (g, a) (h, fetch_ask i s n) is
asked_by (commands.Elect h i) g a is halts w number allowed = told_from halts w number (g, a) (h, asks.Event (events.Elect i)) is
asked_by (commands.Resend h i) g a is halts w number allowed = told_from halts w number (g, a) (h, asks.Event (events.Resend i)) is
asked_by (commands.Stop h i) g a is halts w number allowed = told_from halts w number (g, a) (h, asks.Event (events.Stop i)) is
asked_by (commands.Restart h i) g a is halts w number allowed = told_from halts w number (g, a) (h, asks.Event (events.Restart i)) is
asked_by (commands.Checkpoint h i) g a is halts w number allowed = told_from halts w number (g, a) (h, asks.Event (events.Checkpoint i)) is
asked_by (commands.Deliver h k) g a is halts w number allowed = told_from halts w number (g, a) (h, asks.Event (events.Deliver k)) is
asked_by (commands.Lose h k) g a is halts w number allowed = told_from halts w number (g, a) (h, asks.Event (events.Lose k)) is
asked_by (commands.Mark h i) g a is halts w number allowed = told_from halts w number (g, a) (h, asks.Event (events.Mark i)) is
asked_by (commands.Volume c s n f) g a is halts w number allowed = absurd (none_is_none (g, a) is)
asked_by (commands.Settle limit) g a is halts w number allowed = absurd (none_is_none (g, a) is)
asked_by (commands.Live h hosts writes workers turns) g a is halts w number allowed = absurd (none_is_none (g, a) is)
asked_by (commands.ShowLog h i) g a is halts w number allowed = absurd (none_is_none (g, a) is)
asked_by (commands.ShowApplied h i) g a is halts w number allowed = absurd (none_is_none (g, a) is)
asked_by (commands.ShowSectors h i) g a is halts w number allowed = absurd (none_is_none (g, a) is)
asked_by (commands.ShowAcked h) g a is halts w number allowed = absurd (none_is_none (g, a) is)
asked_by (commands.ShowMark h i s) g a is halts w number allowed = absurd (none_is_none (g, a) is)
asked_by commands.Anchors g a is halts w number allowed = absurd (none_is_none (g, a) is)
asked_by commands.Mount g a is halts w number allowed = absurd (none_is_none (g, a) is)
asked_by (commands.Kill m) g a is halts w number allowed = absurd (none_is_none (g, a) is)
asked_by (commands.Call m call) g a is halts w number allowed = absurd (none_is_none (g, a) is)
asked_by (commands.ShowMount m) g a is halts w number allowed = absurd (none_is_none (g, a) is)
asked_by (commands.Move m) g a is halts w number allowed = absurd (none_is_none (g, a) is)

group_from : (p q : PairOf) → Some p ≡ Some q → Some q.0 ≡ Some p.0
group_from p q is = ap (λ (r : PairOf). Some r.0) (sym (same_Some p q is))

-- a line that asks something of a group names it
pub asked_names : (command : Command) (g : ℕ) (a : LineAsk) → Some (g, a) ≡ asked_by_line command → group_named command ≡ Some g
asked_names (commands.Submit h i s b n) g a is = group_from (g, a) (h, submit_ask i s b n) is
asked_names (commands.Fetch h i s n) g a is = group_from (g, a) (h, fetch_ask i s n) is
asked_names (commands.Elect h i) g a is = group_from (g, a) (h, asks.Event (events.Elect i)) is
asked_names (commands.Resend h i) g a is = group_from (g, a) (h, asks.Event (events.Resend i)) is
asked_names (commands.Stop h i) g a is = group_from (g, a) (h, asks.Event (events.Stop i)) is
asked_names (commands.Restart h i) g a is = group_from (g, a) (h, asks.Event (events.Restart i)) is
asked_names (commands.Checkpoint h i) g a is = group_from (g, a) (h, asks.Event (events.Checkpoint i)) is
asked_names (commands.Deliver h k) g a is = group_from (g, a) (h, asks.Event (events.Deliver k)) is
asked_names (commands.Lose h k) g a is = group_from (g, a) (h, asks.Event (events.Lose k)) is
asked_names (commands.Mark h i) g a is = group_from (g, a) (h, asks.Event (events.Mark i)) is
asked_names (commands.Volume c s n f) g a is = absurd (none_is_none (g, a) is)
asked_names (commands.Settle limit) g a is = absurd (none_is_none (g, a) is)
asked_names (commands.Live h hosts writes workers turns) g a is = absurd (none_is_none (g, a) is)
asked_names (commands.ShowLog h i) g a is = absurd (none_is_none (g, a) is)
asked_names (commands.ShowApplied h i) g a is = absurd (none_is_none (g, a) is)
asked_names (commands.ShowSectors h i) g a is = absurd (none_is_none (g, a) is)
asked_names (commands.ShowAcked h) g a is = absurd (none_is_none (g, a) is)
asked_names (commands.ShowMark h i s) g a is = absurd (none_is_none (g, a) is)
asked_names commands.Anchors g a is = absurd (none_is_none (g, a) is)
asked_names commands.Mount g a is = absurd (none_is_none (g, a) is)
asked_names (commands.Kill m) g a is = absurd (none_is_none (g, a) is)
asked_names (commands.Call m call) g a is = absurd (none_is_none (g, a) is)
asked_names (commands.ShowMount m) g a is = absurd (none_is_none (g, a) is)
asked_names (commands.Move m) g a is = absurd (none_is_none (g, a) is)

-- where its group is made, it is run
pub made_told : (halts : List Halt) (w : World) (number : ℕ) (command : Command) → is_made w (group_named command) ≡ true → line_told halts w number command ≡ run_told halts w number command
made_told halts w number command made = ap (λ b. if b then run_told halts w number command else said_only (record w { kind = kind_after w.kind command }) number (line_refusal_text refusals.NoGroup)) made

pub low_made : (w : World) (o : Option ℕ) (g : ℕ) → o ≡ Some g → g < length w.volume.chunks → is_made w o ≡ true
low_made w o g is low = ap (is_made w) is ∙ grind (arith, nat_tests)

-- a range: an event of the chunk
pub asked_told : (command : Command) (g : ℕ) (a : LineAsk) → Some (g, a) ≡ asked_by_line command → no_range_of a ≡ None → (halts : List Halt) (w : World) (number : ℕ) → g < length w.volume.chunks → IsAllowed w.kind command → line_told halts w number command ≡ at_chunk halts w number g (event_in a halts)
asked_told command g a is range halts w number low allowed = made_told halts w number command (low_made w (group_named command) g (asked_names command g a is) low) ∙ asked_by command g a is halts w number allowed ∙ ap (λ o. told_by halts w number o (g, a)) range

-- no range: none
pub no_range_told : (command : Command) (g : ℕ) (a : LineAsk) (server : ℕ) → Some (g, a) ≡ asked_by_line command → no_range_of a ≡ Some server → (halts : List Halt) (w : World) (number : ℕ) → g < length w.volume.chunks → IsAllowed w.kind command
    → line_told halts w number command ≡ no_event_of w number server (slice_get w.volume.chunks g)
no_range_told command g a server is none halts w number low allowed = made_told halts w number command (low_made w (group_named command) g (asked_names command g a is) low) ∙ asked_by command g a is halts w number allowed ∙ ap (λ o. told_by halts w number o (g, a)) none

-- such a line is no settling and no line of threads
pub asked_within : (old : WorldIs) (number : ℕ) (command : Command) (g : ℕ) (e : LineAsk) → Some (g, e) ≡ asked_by_line command → (new : WorldIs) → LineIsWithin old [] number command new → StopsIn old number command new
asked_within old number (commands.Settle limit) g e is new within = absurd (none_is_none (g, e) is)
asked_within old number (commands.Live h hosts writes workers turns) g e is new within = absurd (none_is_none (g, e) is)
asked_within old number (commands.Move chunk) g e is new within = absurd (none_is_none (g, e) is)
asked_within old number command g e is new within = within

-- only settlings may go on without end
pub asked_ends : (command : Command) (g : ℕ) (e : LineAsk) → Some (g, e) ≡ asked_by_line command → (halts : List Halt) (w : World) → LineEnds halts w command
asked_ends (commands.Settle limit) g e is halts w = absurd (none_is_none (g, e) is)
asked_ends (commands.Live h hosts writes workers turns) g e is halts w = absurd (none_is_none (g, e) is)
asked_ends command g e is halts w = λ made. tt

-- it is no line that moves a chunk
pub asked_stays : (command : Command) (g : ℕ) (e : LineAsk) → Some (g, e) ≡ asked_by_line command → (n : ℕ) → moves_after n command ≡ n
asked_stays (commands.Move chunk) g e is n = absurd (none_is_none (g, e) is)
asked_stays command g e is n = refl

pub asked_plain : (command : Command) (g : ℕ) (e : LineAsk) → Some (g, e) ≡ asked_by_line command → is_live command ≡ false
asked_plain (commands.Live h hosts writes workers turns) g e is = absurd (none_is_none (g, e) is)
asked_plain command g e is = refl

low_from : (n : ℕ) (p q : PairOf) → Some p ≡ Some q → (q.0 < n) × ChunkMayAsk q.1 → (p.0 < n) × ChunkMayAsk p.1
low_from n p q is low = subst (λ (r : PairOf). (r.0 < n) × ChunkMayAsk r.1) (sym (same_Some p q is)) low

-- a line that may be run asks for what may be asked
pub asked_may : (n : NamedVolume) (command : Command) (g : ℕ) (a : LineAsk) → MayRun n command → Some (g, a) ≡ asked_by_line command → (g < n.groups) × ChunkMayAsk a
asked_may n (commands.Submit h i s b m) g a may is =
    let low : i < 3 = grind (arith, nat_tests) in
    let ask : LineAsk = asks.Submit i (record { first = s; count = m }) b in
    low_from n.groups (g, a) (h, submit_ask i s b m) is (grind (arith, nat_tests), by_test (is_range s m) (λ ranges. ChunkMayAsk (if ranges then ask else asks.NoRange i)) (λ _. low) (λ _. low))
asked_may n (commands.Fetch h i s m) g a may is =
    let low : i < 3 = grind (arith, nat_tests) in
    let ask : LineAsk = asks.Fetch i (record { first = s; count = m }) in
    low_from n.groups (g, a) (h, fetch_ask i s m) is (grind (arith, nat_tests), by_test (is_range s m) (λ ranges. ChunkMayAsk (if ranges then ask else asks.NoRange i)) (λ _. low) (λ _. low))
asked_may n (commands.Elect h i) g a may is = low_from n.groups (g, a) (h, asks.Event (events.Elect i)) is (grind (arith, nat_tests), grind (arith, nat_tests))
asked_may n (commands.Resend h i) g a may is = low_from n.groups (g, a) (h, asks.Event (events.Resend i)) is (grind (arith, nat_tests), grind (arith, nat_tests))
asked_may n (commands.Stop h i) g a may is = low_from n.groups (g, a) (h, asks.Event (events.Stop i)) is (grind (arith, nat_tests), grind (arith, nat_tests))
asked_may n (commands.Restart h i) g a may is = low_from n.groups (g, a) (h, asks.Event (events.Restart i)) is (grind (arith, nat_tests), grind (arith, nat_tests))
asked_may n (commands.Checkpoint h i) g a may is = low_from n.groups (g, a) (h, asks.Event (events.Checkpoint i)) is (grind (arith, nat_tests), grind (arith, nat_tests))
asked_may n (commands.Deliver h k) g a may is = low_from n.groups (g, a) (h, asks.Event (events.Deliver k)) is (grind (arith, nat_tests), tt)
asked_may n (commands.Lose h k) g a may is = low_from n.groups (g, a) (h, asks.Event (events.Lose k)) is (grind (arith, nat_tests), tt)
asked_may n (commands.Mark h i) g a may is = low_from n.groups (g, a) (h, asks.Event (events.Mark i)) is (grind (arith, nat_tests), (grind (arith, nat_tests), tt))
asked_may n (commands.Volume c s m f) g a may is = absurd may
asked_may n (commands.Settle limit) g a may is = absurd (none_is_none (g, a) is)
asked_may n (commands.Live h hosts writes workers turns) g a may is = absurd (none_is_none (g, a) is)
asked_may n (commands.ShowLog h i) g a may is = absurd (none_is_none (g, a) is)
asked_may n (commands.ShowApplied h i) g a may is = absurd (none_is_none (g, a) is)
asked_may n (commands.ShowSectors h i) g a may is = absurd (none_is_none (g, a) is)
asked_may n (commands.ShowAcked h) g a may is = absurd (none_is_none (g, a) is)
asked_may n (commands.ShowMark h i s) g a may is = absurd (none_is_none (g, a) is)
asked_may n commands.Anchors g a may is = absurd (none_is_none (g, a) is)
asked_may n commands.Mount g a may is = absurd (none_is_none (g, a) is)
asked_may n (commands.Kill m) g a may is = absurd (none_is_none (g, a) is)
asked_may n (commands.Call m call) g a may is = absurd (none_is_none (g, a) is)
asked_may n (commands.ShowMount m) g a may is = absurd (none_is_none (g, a) is)
asked_may n (commands.Move m) g a may is = absurd (none_is_none (g, a) is)

-- and its group is made
pub asked_group : (w : WorldIs) (command : Command) (g : ℕ) (a : LineAsk) → IsOfMade w command → Some (g, a) ≡ asked_by_line command → g < length w.chunks
asked_group w command g a made is = subst (λ o. IfSome o (λ h. h < length w.chunks)) (asked_names command g a is) made

pub asked_asks : (n : NamedVolume) (command : Command) (g : ℕ) (a : LineAsk) → MayRun n command → Some (g, a) ≡ asked_by_line command → ChunkMayAsk a
asked_asks n command g a may is = (asked_may n command g a may is).1
