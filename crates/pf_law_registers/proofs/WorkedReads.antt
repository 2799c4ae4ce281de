-- The worked history in which the new leader answers a read.
use Rattle.std.proofs.Common.{◌≡◌, ◌≢◌, ℕ, zero, suc, ◌<◌, ◌||◌, Bool, true, false, List, [], ◌∷◌, ◌++◌, length, Option, Some, None, ◌==◌, nat_le, slice_get, arith, refl, sym, ap, subst, ◌∙◌}
use Rattle.std.specs.List.{list_any}
use Rattle.std.specs.Ordering.{nat_cmp, eq_by_cmp}
use Rattle.std.proofs.lemmas.Bool.Decides.{nat_tests}
use Rattle.std.proofs.lemmas.Bool.{or_right, or_left, false≢true, cond-false}
use Rattle.std.proofs.lemmas.Option.{same_Some, none-some}
use Rattle.std.proofs.lemmas.List.{append_assoc}
use Rattle.pf_base.specs.Span.{is_in}
use Rattle.pf_entry.specs.Sets
use Rattle.pf_entry.proofs.Sets.{contains-items}
use Rattle.pf_entry.proofs.MapLists.{items_are}
use Rattle.pf_entry.specs.Ops.{Sector, writes}
use Rattle.pf_entry.specs.declared.ops.Op.{Op}
use Rattle.pf_protocol.specs.LastWriters.{bytes_for}
use Rattle.pf_protocol.specs.declared.answers.Answer.TheVariants.{Done, Job as JobIs, Read as ReadIs, Refused, Slot as SlotIs}
use Rattle.pf_protocol.specs.declared.answers.Refusal.TheVariants.{NotLeader}
use Rattle.pf_protocol.specs.declared.events.Event.{Event}
use Rattle.pf_protocol.specs.declared.events.Event.TheVariants.{Submit, Fetch, Deliver, Claim, Finish}
use Rattle.pf_protocol.specs.declared.events.Happening.{Happening}
use Rattle.pf_protocol.specs.Servers.{Leader, Serving, Server, Running}
use Rattle.pf_protocol.specs.Histories.{History, IsPrefix, replay, RunsAs, Itself}
use Rattle.pf_protocol.specs.Fresh.{shows_slot, IsFetch}
use Rattle.pf_protocol.specs.Ports.{Submission, submitting, FollowsRule, ComesFrom}
use Rattle.pf_protocol.specs.Shown.{small_group, write_at, so}
use Rattle.pf_protocol.specs.StaleReads.{stale_read, before_read, ReadsAtTheLeader}
use Rattle.pf_protocol.proofs.ForPorts.{NewChosen, acked_chosen, new_slot, origin_proposal, Submitted, copy_op, submitted}
use Rattle.pf_protocol.proofs.ForHistories.{fresh}
use Rattle.pf_law_registers.specs.Orders.{Member, given, IsWriteMember, IsOrder, values_of}
use Rattle.pf_law_registers.specs.Sectors.{ReadGives, IsAckedBefore, SectorRegister}
use Rattle.pf_law_registers.specs.Registers.{AreOf, IsAtLeast}
use Rattle.pf_law_registers.specs.Alone.{IsAlone, IsWriteAckedBefore, HasBytes, OwnRegister}
use Rattle.pf_law_registers.specs.Worked.{before_it, one_port, its_read, ShowsTheWrite}
use Rattle.pf_law_registers.proofs.WriteSubmissions.{source}
use Rattle.pf_law_registers.proofs.Orders.{same_member}
use Rattle.pf_law_registers.proofs.SubmissionPorts.{Written, ports_own}

is_submit : Event → Bool
is_submit (Submit i op) = true
is_submit _ = false

is_fetch_at_1 : Event → Bool
is_fetch_at_1 (Fetch i range) = i == 1
is_fetch_at_1 _ = false

abbrev none_pass : (Event → Bool) → History → Bool
none_pass test hs = list_any (λ (h : Happening). test h.event) hs

-- what passes is not among those that do not
not_among : (test : Event → Bool) (hs before rest : History) (h : Happening) → none_pass test hs ≡ false → before ++ (h ∷ rest) ≡ hs → test h.event ≡ true → ⊥
not_among test [] [] rest h none is does = let e : h ∷ rest ≡ [] = is in absurd (cc)
not_among test [] (b ∷ bs) rest h none is does = let e : b ∷ (bs ++ (h ∷ rest)) ≡ [] = is in absurd (cc)
not_among test (x ∷ xs) [] rest h none is does =
    let e : h ∷ rest ≡ x ∷ xs = is in
    let same : h ≡ x = cc in
    false≢true (sym none ∙ or_left _ _ (ap (λ (y : Happening). test y.event) (sym same) ∙ does))
not_among test (x ∷ xs) (b ∷ bs) rest h none is does =
    let e : b ∷ (bs ++ (h ∷ rest)) ≡ x ∷ xs = is in
    let tail : bs ++ (h ∷ rest) ≡ xs = cc in
    not_among test xs bs rest h (later (test x.event) (none_pass test xs) none) tail does
  where
    later : (c d : Bool) → (c || d) ≡ false → d ≡ false
    later true d is = absurd (false≢true (sym is))
    later false d is = is

-- the one event of a history that passes
only : (test : Event → Bool) (first last : History) (it : Happening) → none_pass test first ≡ false → none_pass test last ≡ false → (before rest : History) (h : Happening) → before ++ (h ∷ rest) ≡ first ++ (it ∷ last) → test h.event ≡ true → (before ≡ first) × (h ≡ it)
only test [] last it none none_later [] rest h is does =
    let e : h ∷ rest ≡ it ∷ last = is in
    (refl, cc)
only test [] last it none none_later (b ∷ bs) rest h is does =
    let e : b ∷ (bs ++ (h ∷ rest)) ≡ it ∷ last = is in
    let tail : bs ++ (h ∷ rest) ≡ last = cc in
    absurd (not_among test last bs rest h none_later tail does)
only test (x ∷ xs) last it none none_later [] rest h is does =
    let e : h ∷ rest ≡ x ∷ (xs ++ (it ∷ last)) = is in
    let same : h ≡ x = cc in
    absurd (false≢true (sym none ∙ or_left _ _ (ap (λ (y : Happening). test y.event) (sym same) ∙ does)))
only test (x ∷ xs) last it none none_later (b ∷ bs) rest h is does =
    let e : b ∷ (bs ++ (h ∷ rest)) ≡ x ∷ (xs ++ (it ∷ last)) = is in
    let head : b ≡ x = cc in
    let tail : bs ++ (h ∷ rest) ≡ xs ++ (it ∷ last) = cc in
    let p = only test xs last it (later (test x.event) (none_pass test xs) none) none_later bs rest h tail does in
    (ap (λ y. y ∷ bs) head ∙ ap (λ ys. x ∷ ys) p.0, p.1)
  where
    later : (c d : Bool) → (c || d) ≡ false → d ≡ false
    later true d is = absurd (false≢true (sym is))
    later false d is = is

running_same : (s z : Server) → Some (Running s) ≡ Some (Running z) → s ≡ z
running_same s z is = let e : Running s ≡ Running z = same_Some (Running s) (Running z) is in cc

serving_same : (l m : Leader) → Serving l ≡ Serving m → l ≡ m
serving_same l m e = cc

same_submit : (i j : ℕ) (a b : Op) → Submit i a ≡ Submit j b → (i ≡ j) × (a ≡ b)
same_submit i j a b e = (cc, cc)

module _ (first : Sector) where
  after_it : History
  after_it =
      so (Deliver 4) Done
      ∷ so (Deliver 5) Done
      ∷ so Claim (JobIs (record { server = 1; life = 0; slot = 1; op = write_at 0 first }))
      ∷ so (Finish 1 0 1) Done
      ∷ so (Fetch 0 (record { first = 0; count = 1 })) (ReadIs 0)
      ∷ so (Deliver 7) Done
      ∷ so (Deliver 8) Done
      ∷ so (Deliver 9) Done
      ∷ so (Fetch 0 (record { first = 0; count = 1 })) (Refused NotLeader)
      ∷ so (Fetch 1 (record { first = 0; count = 1 })) (ReadIs 1)
      ∷ so (Deliver 12) Done
      ∷ so (Deliver 13) Done
      ∷ []

  record Same (a : Submission) : Type 0 where
    before : a.before ≡ before_it
    server : a.server ≡ 1
    op : a.op ≡ write_at 0 first
    answer : a.answer ≡ SlotIs 1

  same : (a : Submission) → IsPrefix (a.before ++ submitting a ∷ []) (stale_read first) → Same a
  unfolding after_it is_submit
  same a p =
      let q = only is_submit before_it after_it (so (Submit 1 (write_at 0 first)) (SlotIs 1)) refl refl a.before p.rest (submitting a) (sym (append_assoc a.before (submitting a ∷ []) p.rest) ∙ p.whole) refl in
      let e = same_submit a.server 1 a.op (write_at 0 first) (ap (λ (h : Happening). h.event) q.1) in
      record { before = q.0; server = e.0; op = e.1; answer = ap (λ (h : Happening). h.answer) q.1 }

  -- where the submission's copy stands
  record Next (slot : ℕ) : Type 0 where
    server : Server
    leader : Leader
    runs : RunsAs (replay small_group before_it) 1 server
    serves : server.role ≡ Serving leader
    next : slot ≡ leader.next

  stands : (a : Submission) → Same a → (slot : ℕ) → ComesFrom small_group (stale_read first) slot a → Next slot
  stands a s slot c =
      let p = origin_proposal small_group (stale_read first) c.chosen.entry c.origin c.comes in
      let t = c.copy.target in
      record {
        server = t.server;
        leader = t.leader;
        runs = ap (slice_get (replay small_group before_it).servers) (sym s.server) ∙ ap (λ h. slice_get (replay small_group h).servers a.server) (sym s.before) ∙ t.runs;
        serves = t.serves;
        next = sym c.chosen.in_slot ∙ sym p.2 ∙ ap (λ e. e.slot) c.copy.is ∙ (new_slot small_group.names t.server t.leader a.op).0;
      }

  one_slot : (slot other : ℕ) → Next slot → Next other → slot ≡ other
  one_slot slot other a b =
      let servers : a.server ≡ b.server = running_same a.server b.server (sym a.runs ∙ b.runs) in
      a.next ∙ ap (λ l. l.next) (serving_same a.leader b.leader (sym a.serves ∙ ap (λ s. s.role) servers ∙ b.serves)) ∙ sym b.next

  given_it : given (write_at 0 first) 0 ≡ Some first
  unfolding given writes bytes_for
  given_it = refl

  outside : (x : ℕ) → x ≢ 0 → is_in (record { first = 0; count = 1 }) x ≡ false
  outside x apart = grind (arith, nat_tests, apart)

  gives_no_other : (x : ℕ) → x ≢ 0 → given (write_at 0 first) x ≡ None
  unfolding given writes
  gives_no_other x apart = cond-false _ _ _ (outside x apart)

  only_one : (k : ℕ) (a : Submission) → slice_get (one_port first) k ≡ Some a → (k ≡ 0) × (record { write = 0; before = before_it; server = 1; op = write_at 0 first; answer = SlotIs 1 } ≡ a)
  only_one zero a at = (refl, same_Some _ a at)
  only_one (suc k) a at = absurd (none-some a at)

  not_two : (j k : ℕ) (a b : Submission) → slice_get (one_port first) j ≡ Some a → slice_get (one_port first) k ≡ Some b → j < k → ⊥
  not_two j k a b at there less = omega (arith, (only_one j a at).0, (only_one k b there).0, less)

  port : FollowsRule small_group (stale_read first) (one_port first)
  unfolding after_it
  port = record {
    happened = λ k a at. subst (λ (z : Submission). IsPrefix (z.before ++ submitting z ∷ []) (stale_read first)) (only_one k a at).1 (record { rest = after_it; whole = refl });
    in_order = λ j k a b at there less. absurd (not_two j k a b at there less);
    ascends = λ j k a b at there less. absurd (not_two j k a b at there less);
    no_lower = λ j k a b at there less x y. absurd (not_two j k a b at there less);
    again = λ j k a b at there less. absurd (not_two j k a b at there less);
    waits = λ j k a b at there less. absurd (omega (arith, less, ap (λ z. z.write) (only_one j a at).1, ap (λ z. z.write) (only_one k b there).1));
  }

  alone : IsAlone small_group (stale_read first) (one_port first) 0
  alone before server op answer bytes p took gives =
      let s = same (record { write = 0; before = before; server = server; op = op; answer = answer }) p in
      record { k = 0; submission = record { write = 0; before = before_it; server = 1; op = write_at 0 first; answer = SlotIs 1 }; there = refl; at_moment = sym s.before; to = sym s.server; has_op = sym s.op; has_answer = sym s.answer }

  shows_it : shows_slot (its_read first) 1 ≡ true
  shows_it = or_right (nat_le 1 0) (Sets.contains (Sets.from_items (1 ∷ [])) 1) (contains-items (Sets.from_items (1 ∷ [])) 1 ∙ ap (list_any (eq_by_cmp nat_cmp 1)) (items_are (1 ∷ []) refl))

  module _ (x : ReadsAtTheLeader first) where
    acked_there : slice_get (replay small_group (stale_read first)).acked 0 ≡ Some (record { term = 2; slot = 1 })
    acked_there = ap (λ l. slice_get l 0) x.acked

    answered_there : slice_get (replay small_group (stale_read first)).answered 0 ≡ Some (its_read first)
    answered_there = ap (λ l. slice_get l 0) x.answered

    new : NewChosen small_group (stale_read first) 1 2
    new = acked_chosen small_group (stale_read first) 0 (record { term = 2; slot = 1 }) acked_there

    source_of_it : Submitted small_group (stale_read first) (acked_chosen small_group (stale_read first) 0 (record { term = 2; slot = 1 }) acked_there).chosen.entry
    source_of_it = let n = acked_chosen small_group (stale_read first) 0 (record { term = 2; slot = 1 }) acked_there in submitted small_group (stale_read first) n.chosen.entry n.chosen.proposed n.is_new

    next_1 : Next 1
    next_1 =
        let n = acked_chosen small_group (stale_read first) 0 (record { term = 2; slot = 1 }) acked_there in
        let s = source_of_it in
        stands s.submission (same s.submission s.made) 1 (record { term = 2; op = n.op; chosen = n.chosen; origin = n.chosen.entry; comes = Itself n.chosen.entry n.chosen.proposed n.is_new; copy = s.copy })

    the_write : IsWriteMember small_group (stale_read first) 0 (record { slot = 1; bytes = first })
    the_write =
        let n = acked_chosen small_group (stale_read first) 0 (record { term = 2; slot = 1 }) acked_there in
        let s = source_of_it in
        let op : n.op ≡ write_at 0 first = sym n.chosen.has_op ∙ copy_op small_group s.submission n.chosen.entry s.copy ∙ (same s.submission s.made).op in
        record { term = 2; op = n.op; chosen = n.chosen; gives = ap (λ o. given o 0) op ∙ given_it }

    op_of : (y : ℕ) (m : Member) (w : IsWriteMember small_group (stale_read first) y m) → w.op ≡ write_at 0 first
    op_of y m w =
        let s = source small_group (stale_read first) m.slot w.term w.op y m.bytes w.chosen w.gives in
        sym s.same_op ∙ (same s.submission s.made).op

    only_write : (m : Member) → IsWriteMember small_group (stale_read first) 0 m → m ≡ record { slot = 1; bytes = first }
    only_write m w =
        let s = source small_group (stale_read first) m.slot w.term w.op 0 m.bytes w.chosen w.gives in
        same_member m (record { slot = 1; bytes = first }) (one_slot m.slot 1 (stands s.submission (same s.submission s.made) m.slot s.comes) next_1)
        (same_Some m.bytes first (sym w.gives ∙ ap (λ o. given o 0) (op_of 0 m w) ∙ given_it))

    order_is : (ms : List Member) → IsOrder small_group (stale_read first) 0 ms → ms ≡ record { slot = 1; bytes = first } ∷ []
    order_is [] is = let there = is.all (record { slot = 1; bytes = first }) the_write in absurd (none-some (record { slot = 1; bytes = first }) there.1)
    order_is (m ∷ []) is = ap (λ (z : Member). z ∷ []) (only_write m (is.each 0 m refl))
    order_is (m ∷ n ∷ ms) is =
        let less = is.ascends 0 1 m n refl refl (omega arith) in
        absurd (omega (arith, less, ap (λ z. z.slot) (only_write m (is.each 0 m refl)), ap (λ z. z.slot) (only_write n (is.each 1 n refl))))

    none_elsewhere : (y : ℕ) → y ≢ 0 → (ms : List Member) → IsOrder small_group (stale_read first) y ms → ms ≡ []
    none_elsewhere y apart [] is = refl
    none_elsewhere y apart (m ∷ ms) is =
        let w = is.each 0 m refl in
        absurd (none-some m.bytes (sym (gives_no_other y apart) ∙ ap (λ o. given o y) (sym (op_of y m w)) ∙ w.gives))

    shown_is : (r : SectorRegister small_group (stale_read first) 0) → r.shown (its_read first) ≡ 1
    shown_is r =
        let is = order_is r.order r.is_order in
        let at : slice_get r.order 0 ≡ Some (record { slot = 1; bytes = first }) = ap (λ ms. slice_get ms 0) is in
        let most : length (values_of r.order) ≡ 1 = ap (λ ms. length (values_of ms)) is in
        let some = (r.had_applied 0 (its_read first) 0 (record { slot = 1; bytes = first }) answered_there at).1 shows_it in
        omega (arith, some, r.is_register.within (its_read first), most)

    moment : (fresh small_group (stale_read first) 0 (its_read first) answered_there).before ≡ before_read first
    unfolding is_fetch_at_1
    moment =
        let f = fresh small_group (stale_read first) 0 (its_read first) answered_there in
        (only is_fetch_at_1 (before_read first) (so (Deliver 12) Done ∷ so (Deliver 13) Done ∷ []) (so (Fetch 1 (record { first = 0; count = 1 })) (ReadIs 1)) refl refl f.before f.fetched.is_part.rest f.fetched.fetch
        (sym (append_assoc f.before (f.fetched.fetch ∷ []) f.fetched.is_part.rest) ∙ f.fetched.is_part.whole) (ap is_fetch_at_1 f.fetched.event)).0

    fetched_then : IsFetch small_group (stale_read first) 1 1 (record { first = 0; count = 1 }) (before_read first)
    fetched_then = subst (IsFetch small_group (stale_read first) 1 1 (record { first = 0; count = 1 })) moment (fresh small_group (stale_read first) 0 (its_read first) answered_there).fetched

    acked_then : slice_get (replay small_group (before_read first)).acked 0 ≡ Some (record { term = 2; slot = 1 })
    acked_then = ap (λ l. slice_get l 0) x.acked_before

    the_gift : ReadGives small_group (stale_read first) 0 (its_read first) first
    the_gift = record { k = 0; answered = answered_there; nth = 0; is_sector = refl; has = refl }

    was_acked : (r : SectorRegister small_group (stale_read first) 0) → IsAckedBefore small_group (stale_read first) 0 r.order 0 (its_read first)
    was_acked r = record {
      taken = record { bytes = first; gives = the_gift; before = before_read first; fetched = fetched_then };
      k = 0;
      acked = record { term = 2; slot = 1 };
      was_acked = acked_then;
      member = record { slot = 1; bytes = first };
      there = ap (λ ms. slice_get ms 0) (order_is r.order r.is_order);
      in_slot = refl;
    }

    by_port : Written small_group (one_port first) (stale_read first) 1 (the_write).op
    by_port =
        let s = source small_group (stale_read first) 1 the_write.term the_write.op 0 first the_write.chosen the_write.gives in
        ports_own small_group (one_port first) (stale_read first) 1 the_write.op s
        (alone s.submission.before s.submission.server s.submission.op s.submission.answer first s.made s.comes.copy.took_place (ap (λ o. given o 0) s.same_op ∙ the_write.gives))

    write_acked : IsWriteAckedBefore small_group (stale_read first) (one_port first) 0 0 (its_read first)
    write_acked = record {
      k = by_port.k;
      submission = by_port.submission;
      there = by_port.there;
      is_write = sym (ap (λ z. z.write) (only_one by_port.k by_port.submission by_port.there).1);
      its_bytes = first;
      writes_it = ap (λ o. given o 0) by_port.same_op ∙ the_write.gives;
      taken = record { bytes = first; gives = the_gift; before = before_read first; fetched = fetched_then };
      n = 0;
      acked = record { term = 2; slot = 1 };
      was_acked = acked_then;
      comes = by_port.comes;
    }

    own_is : (r : OwnRegister small_group (stale_read first) (one_port first) 0) → r.shown (its_read first) ≡ Some 0
    own_is r = by_shown (r.shown (its_read first)) refl (r.is_register.gives (its_read first) first the_gift) (r.is_register.acked (its_read first) 0 write_acked)
      where
        by_shown : (o : Option ℕ) → r.shown (its_read first) ≡ o → AreOf (HasBytes (stale_read first) (one_port first) 0) o first → IsAtLeast o 0 → r.shown (its_read first) ≡ Some 0
        by_shown None is zeros least = absurd least
        by_shown (Some w) is has least = is ∙ ap Some (sym has.1.is_write ∙ sym (ap (λ z. z.write) (only_one has.1.k has.1.submission has.1.there).1))

  pub shows_the_write : ReadsAtTheLeader first → ShowsTheWrite first
  shows_the_write x = record {
    order = λ r. order_is x r.order r.is_order;
    elsewhere = λ y apart r. none_elsewhere x y apart r.order r.is_order;
    acked = was_acked x;
    shown = shown_is x;
    port = port;
    alone = alone;
    own = own_is x;
  }
