-- With one epoch more before all others, in which clients did nothing, deeds fit as they did.
use Rattle.std.proofs.Common.{◌≡◌, ℕ, zero, suc, ◌+◌, ◌*◌, ◌<◌, ◌≤◌, inl, inr, Bool, false, List, [], length, map, Option, Some, None, slice_get, arith, sym, ap, subst, ◌∙◌}
use Rattle.std.specs.Option.{option_map}
use Rattle.std.proofs.lemmas.Bool.{false≢true}
use Rattle.std.proofs.lemmas.Option.{same_Some, none-some, slice_get-map}
use Rattle.pf_entry.specs.declared.ops.Op.{Op}
use Rattle.pf_protocol.specs.declared.answers.Answer.{Answer}
use Rattle.pf_protocol.specs.declared.events.Event.TheVariants.{Submit}
use Rattle.pf_protocol.specs.declared.events.Happening.{Happening}
use Rattle.pf_protocol.specs.Answers.{IsLegal}
use Rattle.pf_protocol.specs.Groups.{Answered}
use Rattle.pf_protocol.specs.Histories.{History}
use Rattle.pf_protocol.specs.Ports.{FollowsRule}
use Rattle.pf_protocol.specs.Servers.{Setup}
use Rattle.pf_protocol.specs.Shown.{small_group}
use Rattle.pf_law_registers.proofs.Lists.{got_mapped}
use Rattle.pf_law_positions.specs.Carried.{zero_read, moved_groups, moved_deeds}
use Rattle.pf_law_positions.specs.Deeds.{PortAsk, PortReply, Put, Got, Deed, Takes, Submits, BringsBy, Acks, Reads, IsOfEpoch, Hands, Brings, Groups, DeedIsPending, IsPort, WasPut, WasGot, DeedsFit}
use Rattle.pf_law_positions.specs.Moves.{WereWritten, ChunkIsMoved}
use Rattle.pf_law_positions.proofs.WorkedDeeds.{is_submit, next_there}
use Rattle.pf_law_epochs.specs.Routed.{AreOfPorts, IsRouted}
use Rattle.pf_law_epochs.specs.Worked.{before_all, moved_once_more, later_reply, later_deed}

-- a deed of the later ones is one of these, an epoch later
record Handed (deeds : List Deed) (k client chunk epoch place : ℕ) : Type 0 where
  was : ℕ
  is : epoch ≡ suc was
  at : slice_get deeds k ≡ Some (Submits client chunk was place)

record Turned (deeds : List Deed) (k client : ℕ) (reply : Option PortReply) (ask : Option PortAsk) : Type 0 where
  was : Option PortReply
  is : reply ≡ later_reply was
  at : slice_get deeds k ≡ Some (Takes client was ask)

record WasPutAt (deeds : List Deed) (k client chunk epoch by : ℕ) (op : Op) (ask : Option PortAsk) : Type 0 where
  was : ℕ
  is : epoch ≡ suc was
  at : slice_get deeds k ≡ Some (Takes client (Some (Put chunk was by op)) ask)

record WasGotAt (deeds : List Deed) (k client chunk epoch by : ℕ) (read : Answered) (ask : Option PortAsk) : Type 0 where
  was : ℕ
  is : epoch ≡ suc was
  at : slice_get deeds k ≡ Some (Takes client (Some (Got chunk was by read)) ask)

module _ (deeds : List Deed) where
  abbrev later : List Deed
  later = map later_deed deeds

  handed_there : (k client chunk epoch place : ℕ) → slice_get later k ≡ Some (Submits client chunk epoch place) → Handed deeds k client chunk epoch place
  handed_there k client chunk epoch place at =
      let g = got_mapped later_deed deeds k (Submits client chunk epoch place) at in
      by g.0 g.1 g.2
    where
      by : (d : Deed) → slice_get deeds k ≡ Some d → later_deed d ≡ Submits client chunk epoch place → Handed deeds k client chunk epoch place
      by (Submits a b e p) there is =
          let same : Submits a b (suc e) p ≡ Submits client chunk epoch place = is in
          let up : epoch ≡ suc e = cc in
          let it : Submits a b e p ≡ Submits client chunk e place = cc in
          record { was = e; is = up; at = there ∙ ap Some it }
      by (Takes a r q) there is =
          let same : Takes a (later_reply r) q ≡ Submits client chunk epoch place = is in
          absurd (cc)

  turned_there : (k client : ℕ) (reply : Option PortReply) (ask : Option PortAsk) → slice_get later k ≡ Some (Takes client reply ask) → Turned deeds k client reply ask
  turned_there k client reply ask at =
      let g = got_mapped later_deed deeds k (Takes client reply ask) at in
      by g.0 g.1 g.2
    where
      by : (d : Deed) → slice_get deeds k ≡ Some d → later_deed d ≡ Takes client reply ask → Turned deeds k client reply ask
      by (Submits a b e p) there is =
          let same : Submits a b (suc e) p ≡ Takes client reply ask = is in
          absurd (cc)
      by (Takes a r q) there is =
          let same : Takes a (later_reply r) q ≡ Takes client reply ask = is in
          let up : reply ≡ later_reply r = cc in
          let it : Takes a r q ≡ Takes client r ask = cc in
          record { was = r; is = up; at = there ∙ ap Some it }

  handed_later : (k client chunk epoch place : ℕ) → slice_get deeds k ≡ Some (Submits client chunk epoch place) → slice_get later k ≡ Some (Submits client chunk (suc epoch) place)
  handed_later k client chunk epoch place at = slice_get-map later_deed deeds k ∙ ap (λ o. option_map later_deed o) at

  turned_later : (k client : ℕ) (reply : Option PortReply) (ask : Option PortAsk) → slice_get deeds k ≡ Some (Takes client reply ask) → slice_get later k ≡ Some (Takes client (later_reply reply) ask)
  turned_later k client reply ask at = slice_get-map later_deed deeds k ∙ ap (λ o. option_map later_deed o) at

  put_there : (k client chunk epoch by : ℕ) (op : Op) (ask : Option PortAsk) → slice_get later k ≡ Some (Takes client (Some (Put chunk epoch by op)) ask) → WasPutAt deeds k client chunk epoch by op ask
  put_there k client chunk epoch by op ask at =
      let t = turned_there k client (Some (Put chunk epoch by op)) ask at in
      of t.was t.is t.at
    where
      of : (r : Option PortReply) → Some (Put chunk epoch by op) ≡ later_reply r → slice_get deeds k ≡ Some (Takes client r ask) → WasPutAt deeds k client chunk epoch by op ask
      of None is there = absurd (none-some _ (sym is))
      of (Some (Put d e b o)) is there =
          let same : Put chunk epoch by op ≡ Put d (suc e) b o = same_Some _ _ is in
          let up : epoch ≡ suc e = cc in
          let it : Put d e b o ≡ Put chunk e by op = cc in
          record { was = e; is = up; at = there ∙ ap (λ p. Some (Takes client (Some p) ask)) it }
      of (Some (Got d e b read)) is there =
          let same : Put chunk epoch by op ≡ Got d (suc e) b read = same_Some _ _ is in
          absurd (cc)

  got_there : (k client chunk epoch by : ℕ) (read : Answered) (ask : Option PortAsk) → slice_get later k ≡ Some (Takes client (Some (Got chunk epoch by read)) ask) → WasGotAt deeds k client chunk epoch by read ask
  got_there k client chunk epoch by read ask at =
      let t = turned_there k client (Some (Got chunk epoch by read)) ask at in
      of t.was t.is t.at
    where
      of : (r : Option PortReply) → Some (Got chunk epoch by read) ≡ later_reply r → slice_get deeds k ≡ Some (Takes client r ask) → WasGotAt deeds k client chunk epoch by read ask
      of None is there = absurd (none-some _ (sym is))
      of (Some (Put d e b op)) is there =
          let same : Got chunk epoch by read ≡ Put d (suc e) b op = same_Some _ _ is in
          absurd (cc)
      of (Some (Got d e b other)) is there =
          let same : Got chunk epoch by read ≡ Got d (suc e) b other = same_Some _ _ is in
          let up : epoch ≡ suc e = cc in
          let it : Got d e b other ≡ Got chunk e by read = cc in
          record { was = e; is = up; at = there ∙ ap (λ p. Some (Takes client (Some p) ask)) it }

  pending_there : (client asked moment : ℕ) (ask : PortAsk) → DeedIsPending later client asked moment ask → DeedIsPending deeds client asked moment ask
  pending_there client asked moment ask p =
      let t = turned_there asked client p.reply (Some ask) p.at in
      record { reply = t.was; at = t.at; earlier = p.earlier; no_other = λ k its next lt less there. p.no_other k (later_reply its) next lt less (turned_later k client its next there) }

  pending_later : (client asked moment : ℕ) (ask : PortAsk) → DeedIsPending deeds client asked moment ask → DeedIsPending later client asked moment ask
  pending_later client asked moment ask p = record {
    reply = later_reply p.reply;
    at = turned_later asked client p.reply (Some ask) p.at;
    earlier = p.earlier;
    no_other = λ k its next lt less there. let t = turned_there k client its next there in p.no_other k t.was next lt less t.at;
  }

  -- a deed that brings an answer
  record Brought (k chunk epoch by : ℕ) : Type 0 where
    was : ℕ
    is : epoch ≡ suc was
    deed : Deed
    at : slice_get deeds k ≡ Some deed
    brings : BringsBy chunk was by deed

  brings_there : (k chunk epoch by : ℕ) (deed : Deed) → slice_get later k ≡ Some deed → BringsBy chunk epoch by deed → Brought k chunk epoch by
  brings_there k chunk epoch by _ at (Acks client op ask) =
      let p = put_there k client chunk epoch by op ask at in
      record { was = p.was; is = p.is; deed = Takes client (Some (Put chunk p.was by op)) ask; at = p.at; brings = Acks client op ask }
  brings_there k chunk epoch by _ at (Reads client read ask) =
      let p = got_there k client chunk epoch by read ask at in
      record { was = p.was; is = p.is; deed = Takes client (Some (Got chunk p.was by read)) ask; at = p.at; brings = Reads client read ask }

  record OfEpoch (k chunk epoch : ℕ) : Type 0 where
    was : ℕ
    is : epoch ≡ suc was
    deed : Deed
    at : slice_get deeds k ≡ Some deed
    of : IsOfEpoch chunk was deed

  epoch_there : (k chunk epoch : ℕ) (deed : Deed) → slice_get later k ≡ Some deed → IsOfEpoch chunk epoch deed → OfEpoch k chunk epoch
  epoch_there k chunk epoch _ at (Hands client place) =
      let h = handed_there k client chunk epoch place at in
      record { was = h.was; is = h.is; deed = Submits client chunk h.was place; at = h.at; of = Hands client place }
  epoch_there k chunk epoch _ at (Brings by deed is) =
      let b = brings_there k chunk epoch by deed at is in
      record { was = b.was; is = b.is; deed = b.deed; at = b.at; of = Brings by b.deed b.brings }

no_rule_here : (setup : Setup) (history : History) → FollowsRule setup history []
no_rule_here setup history = record {
  happened = λ k a at. absurd (none-some a at);
  in_order = λ j k a b at there lt. absurd (none-some a at);
  ascends = λ j k a b at there lt. absurd (none-some a at);
  no_lower = λ j k a b at there lt. absurd (none-some a at);
  again = λ j k a b at there lt. absurd (none-some a at);
  waits = λ j k a b at there lt. absurd (none-some a at);
}

abbrev submits : Option Happening → Bool
submits (Some h) = is_submit h.event
submits None = false

pub no_submit : (n server : ℕ) (op : Op) (answer : Answer) → slice_get zero_read n ≡ Some (record { event = Submit server op; answer = answer }) → ⊥
no_submit zero server op answer is = false≢true (ap submits is)
no_submit (suc zero) server op answer is = false≢true (ap submits is)
no_submit (suc (suc zero)) server op answer is = false≢true (ap submits is)
no_submit (suc (suc (suc n))) server op answer is = none-some _ is

module _ (groups : Groups) (deeds : List Deed) (chunk : ℕ) where
  abbrev more : Groups
  more = moved_once_more groups zero_read

  abbrev after : List Deed
  after = map later_deed deeds

  -- into the earlier group clients handed nothing
  no_port : (client : ℕ) → IsPort more after chunk 0 client
  no_port client = record {
    happened = λ k a at. absurd (none-some a at);
    handed = λ k a at. absurd (none-some a at);
    in_order = λ k a b at there. absurd (none-some a at);
    term = λ k. 0;
    in_term = λ k a at x. absurd (none-some a at);
    no_lower = λ k a b at there. absurd (none-some a at);
    again = λ k a b at there same whole. absurd (none-some a at);
  }

  module _ (fits : DeedsFit groups deeds chunk) where
    port_later : (epoch client : ℕ) → epoch ≤ suc (groups.moves chunk) → IsPort more after chunk epoch client
    port_later zero client le = no_port client
    port_later (suc epoch) client le =
        let p = fits.port epoch client (omega (arith, le)) in
        record {
          happened = p.happened;
          handed = λ k a at. let h = p.handed k a at in record { moment = h.moment; at = handed_later deeds h.moment client chunk epoch _ h.at; pending = pending_later deeds client a.write h.moment _ h.pending };
          in_order = p.in_order;
          term = p.term;
          in_term = p.in_term;
          no_lower = p.no_lower;
          again = p.again;
        }

    put_later : (client moment epoch by : ℕ) (op : Op) → WasPut groups deeds chunk epoch client moment by op → WasPut more after chunk (suc epoch) client moment by op
    put_later client moment epoch by op w = record {
      asked = w.asked;
      pending = pending_later deeds client w.asked moment _ w.pending;
      k = w.k;
      submission = w.submission;
      there = w.there;
      is_it = w.is_it;
      is_last = w.is_last;
      slot = w.slot;
      took_slot = w.took_slot;
      term = w.term;
      in_term = w.in_term;
      n = w.n;
      acked = w.acked;
    }

    got_later : (client moment epoch by : ℕ) (read : Answered) → WasGot groups deeds chunk epoch client moment by read → WasGot more after chunk (suc epoch) client moment by read
    got_later client moment epoch by read w = record {
      asked = w.asked;
      range = w.range;
      pending = pending_later deeds client w.asked moment _ w.pending;
      handed = w.handed;
      after = w.after;
      place = w.place;
      at = handed_later deeds w.handed client chunk epoch w.place w.at;
      server = w.server;
      taken = w.taken;
      k = w.k;
      answered = w.answered;
    }

    fits_later : DeedsFit more after chunk
    fits_later = record {
      places = λ moment later epoch client other place next lt at there.
          let a = handed_there deeds moment client chunk epoch place at in
          let b = handed_there deeds later other chunk epoch next there in
          let same : b.was ≡ a.was = omega (arith, a.is, b.is) in
          fits.places moment later a.was client other place next lt a.at (subst (λ e. slice_get deeds later ≡ Some (Submits other chunk e next)) same b.at);
      rises = λ moment later epoch client by place deed lt at is there.
          let a = brings_there deeds moment chunk epoch by deed at is in
          let b = handed_there deeds later client chunk epoch place there in
          let same : b.was ≡ a.was = omega (arith, a.is, b.is) in
          fits.rises moment later a.was client by place a.deed lt a.at a.brings (subst (λ e. slice_get deeds later ≡ Some (Submits client chunk e place)) same b.at);
      goes_on = λ moment later epoch other deed next lt at is there that.
          let a = epoch_there deeds moment chunk epoch deed at is in
          let b = epoch_there deeds later chunk other next there that in
          omega (arith, a.is, b.is, fits.goes_on moment later a.was b.was a.deed b.deed lt a.at a.of b.at b.of);
      reached = λ moment epoch deed at is.
          let a = epoch_there deeds moment chunk epoch deed at is in
          omega (arith, a.is, fits.reached moment a.was a.deed a.at a.of);
      port = port_later;
      waits = λ client asked moment op reply next p at.
          let t = turned_there deeds moment client reply next at in
          let w = fits.waits client asked moment op t.was next (pending_there deeds client asked moment _ p) t.at in
          (suc w.0, w.1, t.is ∙ ap later_reply w.2);
      put = λ client moment epoch by op ask at.
          let p = put_there deeds moment client chunk epoch by op ask at in
          subst (λ e. WasPut more after chunk e client moment by op) (sym p.is) (put_later client moment p.was by op (fits.put client moment p.was by op ask p.at));
      got = λ client moment epoch by read ask at.
          let p = got_there deeds moment client chunk epoch by read ask at in
          subst (λ e. WasGot more after chunk e client moment by read) (sym p.is) (got_later client moment p.was by read (fits.got client moment p.was by read ask p.at));
    }

  were_written : (first epoch by : ℕ) → WereWritten groups chunk first epoch by → WereWritten more chunk first (suc epoch) by
  were_written first zero by w = λ k nth a its at inside gives. absurd (none-some a at)
  were_written first (suc epoch) by w = w

  moved_later : (first epoch : ℕ) (last : Answered) → ChunkIsMoved groups deeds chunk first epoch last → ChunkIsMoved more after chunk first (suc epoch) last
  moved_later first epoch last m = record {
    k = m.k;
    answered = m.answered;
    from = m.from;
    eight = m.eight;
    place = m.place;
    server = m.server;
    taken = m.taken;
    after_move = were_written first epoch m.place m.after_move;
    after_answers = λ moment by deed at is.
        let b = brings_there deeds moment chunk (suc epoch) by deed at is in
        let same : b.was ≡ epoch = omega (arith, b.is) in
        m.after_answers moment by b.deed b.at (subst (λ e. BringsBy chunk e by b.deed) same b.brings);
    rule = m.rule;
    same = m.same;
    all = m.all;
    clients_wait = λ moment client by at.
        let h = handed_there deeds moment client chunk (suc (suc epoch)) by at in
        let same : h.was ≡ suc epoch = omega (arith, h.is) in
        m.clients_wait moment client by (subst (λ e. slice_get deeds moment ≡ Some (Submits client chunk e by)) same h.at);
  }

  -- the earlier group read zeros
  module _ (legal : IsLegal small_group zero_read) (read_zeros : Answered) (m : ChunkIsMoved moved_groups moved_deeds 0 0 0 read_zeros) (routed : IsRouted groups deeds chunk 0) where
    of_ports_later : (epoch nth : ℕ) → epoch ≤ suc (groups.moves chunk) → nth < 8 → AreOfPorts more chunk epoch (8 * 0 + nth)
    of_ports_later zero nth le low before server op answer bytes made took gives = absurd (no_submit (length before) server op answer (next_there before zero_read (record { event = Submit server op; answer = answer }) made).0)
    of_ports_later (suc zero) nth le low before server op answer bytes made took gives = routed.of_ports zero nth (omega (arith, le)) low before server op answer bytes made took gives
    of_ports_later (suc (suc epoch)) nth le low before server op answer bytes made took gives = routed.of_ports (suc epoch) nth (omega (arith, le)) low before server op answer bytes made took gives

    legal_later : (epoch : ℕ) → epoch ≤ suc (groups.moves chunk) → IsLegal (more.setup chunk epoch) (more.history chunk epoch)
    legal_later zero le = legal
    legal_later (suc epoch) le = routed.legal epoch (omega (arith, le))

    inside_later : (epoch : ℕ) → epoch ≤ suc (groups.moves chunk) → 8 ≤ (more.setup chunk epoch).chunk
    inside_later zero le = omega arith
    inside_later (suc epoch) le = omega (arith, routed.inside epoch (omega (arith, le)))

    first_moved : ChunkIsMoved more after chunk 0 0 read_zeros
    first_moved =
        record {
          k = m.k;
          answered = m.answered;
          from = m.from;
          eight = m.eight;
          place = m.place;
          server = m.server;
          taken = m.taken;
          after_move = λ k nth a its at inside gives. absurd (none-some a at);
          after_answers = λ moment by deed at is. let b = brings_there deeds moment chunk 0 by deed at is in absurd (omega (arith, b.is));
          rule = no_rule_here (groups.setup chunk 0) (groups.history chunk 0);
          same = λ k nth a its at inside gives. absurd (none-some a at);
          all = λ nth bytes low at. elim (m.all nth bytes low at) [
            | inl zeros ↦ inl zeros
            | inr (write, w) ↦ absurd (none-some w.final w.at)
          ];
          clients_wait = λ moment client by at k nth a its there inside gives. absurd (none-some a there);
        }

    moved_all : (epoch : ℕ) → epoch < suc (groups.moves chunk) → ChunkIsMoved more after chunk 0 epoch (before_all read_zeros routed.last epoch)
    moved_all zero lt = first_moved
    moved_all (suc epoch) lt = moved_later 0 epoch (routed.last epoch) (routed.moved epoch (omega (arith, lt)))

    pub routed_later : IsRouted more after chunk 0
    routed_later = record {
      fits = fits_later routed.fits;
      legal = legal_later;
      inside = inside_later;
      of_ports = of_ports_later;
      last = before_all read_zeros routed.last;
      moved = moved_all;
    }
