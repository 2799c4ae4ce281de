-- How a step ends, from what its parts came to.
use Rattle.std.proofs.Common.{◌≡◌, ◌⊎◌, inl, inr, ℕ, ◌+◌, ◌<◌, ◌≤◌, false, List, [], Option, Some, None, Result, Ok, Err, nat_lt, refl, sym, ap, subst, ◌∙◌}
use Rattle.pf_entry.specs.Sizes.{body_size, empty_half}
use Rattle.pf_entry.specs.Records.{Durable, stored}
use Rattle.pf_entry.specs.declared.packets.Packet.{Packet}
use Rattle.pf_entry.specs.declared.records.Record.{Record}
use Rattle.pf_entry.specs.declared.records.Record.TheVariants.{Image as ImageRecord, Term as TermRecord, Entry as EntryRecord, Merged as MergedRecord}
use Rattle.pf_protocol.specs.Servers.{Server}
use Rattle.pf_protocol.specs.Outcomes.{Outcome, sends, nothing}
use Rattle.pf_protocol.specs.Answers.{refuse, has_stored}
use Rattle.pf_protocol.specs.declared.answers.Answer.{Answer}
use Rattle.pf_protocol.specs.declared.answers.Answer.TheVariants.{Done}
use Rattle.pf_protocol.specs.declared.answers.Refusal.{Refusal}
use Rattle.pf_protocol.specs.declared.answers.Refusal.TheVariants.{PacketsFull, LogFull}
use Rattle.pf_server_store.specs.Stores.{StoreModel}
use Rattle.pf_server_memory.specs.declared.faults.StepFault.{StepFault}
use Rattle.pf_server_memory.specs.declared.faults.StepFault.TheVariants.{NoMemory, Refused, Halted}
use Rattle.pf_server_memory.specs.declared.running.Running.{Running}
use Rattle.pf_server_memory.specs.Outgoing.{Outgoing, exceeds, sent_by, Sends}
use Rattle.pf_server_memory.specs.Standing.{server_of, setup_of, quiet, IsCached, Stands, IsDone, Steps, room_refusal}
use Rattle.pf_server_memory.specs.Storing.{IsStored, Keeps, Stores, Saves}
use Rattle.pf_server_memory.specs.Turns.{IsAfter}
use Rattle.pf_server_memory.proofs.SentPackets.{none_exceeds, none_sent, nothing_sent, to_host}
use Rattle.pf_server_memory.proofs.Steps.{room_none, room_packets, room_log, untouched}

-- a record is kept in the half where it is added, and an image is saved in the second format
stored_format : (d : Durable) (r : Record) → ((stored d r).format ≡ 2) ⊎ ((stored d r).format ≡ d.format)
unfolding stored
stored_format d (ImageRecord generation term vote applied sectors) = inl refl
stored_format d (TermRecord term) = inr refl
stored_format d (EntryRecord e) = inr refl
stored_format d (MergedRecord term first es) = inr refl

-- the state with a record
pub record IsKept (d : Durable) (r : Record) (size its : ℕ) (after : Durable) : Type 0 where
  pub is : after ≡ stored d r
  pub used : after.used ≡ size
  pub format : after.format ≡ its

-- a record was added to the state
abbrev pub IsAdded : (d : Durable) (r : Record) (after : Durable) → Type 0
IsAdded d r after = IsKept d r (d.used + body_size r) d.format after

-- an image of the state was saved
abbrev pub IsSaved : (d : Durable) (r : Record) (after : Durable) → Type 0
IsSaved d r after = IsKept d r (empty_half + body_size r) 2 after

-- memory over the state with the record
abbrev pub IsFollowed : (me me' : Running) (s : Server) → Type 0
IsFollowed me me' s = IsAfter s.durable me me' s

-- packets that were sent before a step that sends none
sent_before : (out mid : Outgoing) (o : Outcome) → exceeds out o.packets ≡ false → room_refusal mid (quiet o) ≡ room_refusal out o
unfolding room_refusal
sent_before out mid o not = ap (λ b. refuse b PacketsFull (refuse (nat_lt 67108864 o.server.durable.used) LogFull None)) (none_exceeds mid ∙ sym not)

then_sent : (out mid new : Outgoing) (ps : List Packet) (acked : Option ℕ) → mid ≡ sent_by out ps → new ≡ record (sent_by mid []) { acked = acked } → new ≡ record (sent_by out ps) { acked = acked }
then_sent out mid new ps acked is more = more ∙ ap (λ (x : Outgoing). let y : Outgoing = record x { acked = acked } in y) (sym (none_sent mid) ∙ is)

-- nothing has changed
pub same_after : (d : Durable) (me : Running) → IsCached d me → IsAfter d me me (server_of d me)
same_after d me cached = record { server_is = refl; setup_same = refl; cached = cached }

-- over the same store
pub stands_after : {S : Type 0} (model : StoreModel S) (d : Durable) (store : S) (me new : Running) → Stands model d store me → (s : Server) → IsAfter d me new s → Stands model d store new
stands_after model d store me new stands s after = record { recorded = stands.recorded; used_is = stands.used_is; within = stands.within; half = stands.half; cached = after.cached }

module _ {S : Type 0} (model : StoreModel S) (d : Durable) where
  module _ (store : S) (me new : Running) (stands : Stands model d store me) where
    -- a step that changed memory alone
    pub changed_memory : (out out' : Outgoing) (o : Outcome) (answer : Answer) → o.server.durable ≡ d → IsAfter d me new o.server → answer ≡ o.answer → exceeds out o.packets ≡ false → out' ≡ record (sent_by out o.packets) { acked = o.acked }
        → IsDone model d store me out store new out' (room_refusal out o) o answer
    changed_memory out out' o answer same after is not sent = record {
      may = room_none out o not (subst (λ n. n ≤ 67108864) (sym (ap (λ (e : Durable). e.used) same)) stands.within);
      answered = is;
      server_is = ap (λ e. server_of e new) same ∙ after.server_is;
      setup_same = after.setup_same;
      stands = subst (λ e. Stands model e store new) (sym same) (stands_after model d store me new stands o.server after);
      told_same = refl;
      crash = inl refl;
      sent = sent;
    }

    pub done_in_memory : (out : Outgoing) (s : Server) → s.durable ≡ d → IsAfter d me new s → out.acked ≡ None → IsDone model d store me out store new out (room_refusal out (nothing s)) (nothing s) Done
    done_in_memory out s same after fresh = changed_memory out out (nothing s) Done same after refl (none_exceeds out) (nothing_sent out None fresh)

    -- there is no memory, and there may be more room
    pub short_of_memory : (out out' : Outgoing) (judged : Option Refusal) (o : Outcome) (r : Result Answer StepFault) → (e : StepFault) × (r ≡ Err e) × (e ≡ NoMemory) → IsAfter d me new (server_of d me)
        → Steps model d store me out store new out' judged o r
    short_of_memory out out' judged o r (e, is, none) after =
        subst (Steps model d store me out store new out' judged o) (sym (is ∙ ap Err none))
        (record { store_same = refl; server_same = after.server_is; setup_same = after.setup_same; stands = stands_after model d store me new stands (server_of d me) after })

  module _ (store : S) (me : Running) (out new : Outgoing) (stands : Stands model d store me) where
    -- nothing is stored, and the packets are sent
    pub sent_only : (ps : List Packet) → exceeds out ps ≡ false → new ≡ sent_by out ps → out.acked ≡ None
        → IsDone model d store me out store me new (room_refusal out (sends (server_of d me) ps)) (sends (server_of d me) ps) Done
    unfolding server_of
    sent_only ps not is fresh = changed_memory store me me stands out new (sends (server_of d me) ps) Done refl (same_after d me stands.cached) refl not (to_host out new ps is fresh)

    pub refused_by : (judged : Option Refusal) (o : Outcome) (refusal : Refusal) → judged ≡ Some refusal → Steps model d store me out store me new judged o (Err (Refused refusal))
    refused_by judged o refusal is = record { judged_so = is; untouched = untouched model d store me out new stands }

    unsent_by : (X : Type 0) (o : Outcome) (e : StepFault) → Sends {X = X} out new o.packets (Err e) → Steps model d store me out store me new (room_refusal out o) o (Err e)
    unsent_by X o NoMemory s = untouched model d store me out new stands
    unsent_by X o (Refused refusal) s = refused_by (room_refusal out o) o refusal (room_packets out o s.1 ∙ ap Some (sym s.0))
    unsent_by X o Halted s = absurd s

    -- the packets are not sent
    pub unsent : {X : Type 0} (o : Outcome) (e : StepFault) (r : Result X StepFault) (r2 : Result Answer StepFault) → Sends out new o.packets r → r ≡ Err e → (e2 : StepFault) × (r2 ≡ Err e2) × (e2 ≡ e)
        → Steps model d store me out store me new (room_refusal out o) o r2
    unsent {X = X} o e r r2 sent is (e2, is2, same) =
        subst (Steps model d store me out store me new (room_refusal out o) o) (sym (is2 ∙ ap Err same)) (unsent_by X o e (subst (Sends out new o.packets) is sent))

  -- nothing happens
  pub nothing_done : (store : S) (me : Running) (out : Outgoing) → Stands model d store me → out.acked ≡ None
      → IsDone model d store me out store me out (room_refusal out (nothing (server_of d me))) (nothing (server_of d me)) Done
  nothing_done store me out stands fresh = sent_only store me out out stands [] (none_exceeds out) (none_sent out) fresh

  -- packets were sent, and then a step came that sends none
  module _ (store store' : S) (me me' : Running) (out mid new : Outgoing) (o : Outcome) (not : exceeds out o.packets ≡ false) (is : mid ≡ sent_by out o.packets) where
    pub after_sending : (r : Result Answer StepFault) → Steps model d store me mid store' me' new (room_refusal mid (quiet o)) (quiet o) r
        → Steps model d store me out store' me' new (room_refusal out o) o r
    after_sending (Ok answer) x = record {
      may = sym (sent_before out mid o not) ∙ x.may;
      answered = x.answered;
      server_is = x.server_is;
      setup_same = x.setup_same;
      stands = x.stands;
      told_same = x.told_same;
      crash = x.crash;
      sent = then_sent out mid new o.packets o.acked is x.sent;
    }
    after_sending (Err NoMemory) x = record { store_same = x.store_same; server_same = x.server_same; setup_same = x.setup_same; stands = x.stands }
    after_sending (Err (Refused refusal)) x = record {
      judged_so = sym (sent_before out mid o not) ∙ x.judged_so;
      untouched = record { store_same = x.untouched.store_same; server_same = x.untouched.server_same; setup_same = x.untouched.setup_same; stands = x.untouched.stands };
    }
    after_sending (Err Halted) x = record { may = sym (sent_before out mid o not) ∙ x.may; stores = x.stores; half = x.half; in_doubt = x.in_doubt; told_same = x.told_same; crash = x.crash; cause = x.cause }

  -- a step that sends nothing, and keeps a record
  module _ (store store' : S) (me : Running) (out : Outgoing) (o : Outcome) (r : Record) (size its : ℕ) (stands : Stands model d store me) (kept : IsKept d r size its o.server.durable) where
    same_half : store' ≡ store → Stands model d store' me
    same_half same = subst (λ x. Stands model d x me) (sym same) stands

    unkept_by : (X : Type 0) (e : StepFault) → Keeps model d r size its store store' {X = X} (Err e) → Steps model d store me out store' me out (room_refusal out (quiet o)) (quiet o) (Err e)
    unkept_by X NoMemory same = record { store_same = same; server_same = refl; setup_same = refl; stands = same_half same }
    unkept_by X (Refused refusal) full = record {
      judged_so = room_log out (quiet o) (none_exceeds out) (subst (λ n. 67108864 < n) (sym kept.used) full.beyond) ∙ ap Some (sym full.is);
      untouched = record { store_same = full.same; server_same = refl; setup_same = refl; stands = same_half full.same };
    }
    unkept_by X Halted doubt = record {
      may = room_none out (quiet o) (none_exceeds out) (subst (λ n. n ≤ 67108864) (sym kept.used) doubt.fits);
      stores = ap (has_stored d) kept.is ∙ doubt.moved;
      half = subst (λ a. (a.format ≡ 2) ⊎ (a.format ≡ d.format)) (sym kept.is) (stored_format d r);
      in_doubt = subst (model.holds store' d) (sym kept.is) doubt.either;
      told_same = doubt.told_same;
      crash = subst (model.was store store' d) (sym kept.is) doubt.crash;
      cause = doubt.cause;
    }

    unkept : {X : Type 0} (e : StepFault) (q : Result X StepFault) (r2 : Result Answer StepFault) → Keeps model d r size its store store' q → q ≡ Err e → (e2 : StepFault) × (r2 ≡ Err e2) × (e2 ≡ e)
        → Steps model d store me out store' me out (room_refusal out (quiet o)) (quiet o) r2
    unkept {X = X} e q r2 keeps is (e2, is2, same) =
        subst (Steps model d store me out store' me out (room_refusal out (quiet o)) (quiet o)) (sym (is2 ∙ ap Err same)) (unkept_by X e (subst (Keeps model d r size its store store') is keeps))

    kept_then : (me' : Running) (answer : Answer) → IsStored model d r size its store store' → IsFollowed me me' o.server → answer ≡ o.answer → out.acked ≡ o.acked
        → IsDone model d store me out store' me' out (room_refusal out (quiet o)) (quiet o) answer
    kept_then me' answer x followed answered acked = record {
      may = room_none out (quiet o) (none_exceeds out) (subst (λ n. n ≤ 67108864) (sym kept.used) x.fits);
      answered = answered;
      server_is = followed.server_is;
      setup_same = followed.setup_same;
      stands = record {
        recorded = subst (λ a. model.holds store' a a) (sym kept.is) x.recorded;
        used_is = x.used_is ∙ sym kept.used;
        within = subst (λ n. n ≤ 67108864) (sym kept.used) x.fits;
        half = x.format_is ∙ sym kept.format;
        cached = followed.cached;
      };
      told_same = x.told_same;
      crash = inr (subst (model.was store store' d) (sym kept.is) x.crash);
      sent = nothing_sent out o.acked acked;
    }

  module _ (store store' : S) (me : Running) (out : Outgoing) (o : Outcome) (r : Record) (stands : Stands model d store me) (added : IsAdded d r o.server.durable) where
    in_half : IsKept d r (d.used + body_size r) (model.format store) o.server.durable
    in_half = record { is = added.is; used = added.used; format = added.format ∙ sym stands.half }

    -- the record is not stored
    pub unstored : {X : Type 0} (e : StepFault) (q : Result X StepFault) (r2 : Result Answer StepFault) → Stores model d r store store' q → q ≡ Err e → (e2 : StepFault) × (r2 ≡ Err e2) × (e2 ≡ e)
        → Steps model d store me out store' me out (room_refusal out (quiet o)) (quiet o) r2
    unstored e q r2 stores is end = unkept store store' me out o r (d.used + body_size r) (model.format store) stands in_half e q r2 stores is end

    -- the record is stored, and memory follows
    pub stored_then : (me' : Running) (answer : Answer) → IsStored model d r (d.used + body_size r) (model.format store) store store' → IsFollowed me me' o.server → answer ≡ o.answer → out.acked ≡ o.acked
        → IsDone model d store me out store' me' out (room_refusal out (quiet o)) (quiet o) answer
    stored_then me' answer x followed answered acked = kept_then store store' me out o r (d.used + body_size r) (model.format store) stands in_half me' answer x followed answered acked

  module _ (store store' : S) (me : Running) (out : Outgoing) (o : Outcome) (r : Record) (stands : Stands model d store me) (saved : IsSaved d r o.server.durable) where
    -- the image is not saved
    pub unsaved : {X : Type 0} (e : StepFault) (q : Result X StepFault) (r2 : Result Answer StepFault) → Saves model d r store store' q → q ≡ Err e → (e2 : StepFault) × (r2 ≡ Err e2) × (e2 ≡ e)
        → Steps model d store me out store' me out (room_refusal out (quiet o)) (quiet o) r2
    unsaved e q r2 saves is end = unkept store store' me out o r (empty_half + body_size r) 2 stands saved e q r2 saves is end

    -- the image is saved, and memory follows
    pub saved_then : (me' : Running) (answer : Answer) → IsStored model d r (empty_half + body_size r) 2 store store' → IsFollowed me me' o.server → answer ≡ o.answer → out.acked ≡ o.acked
        → IsDone model d store me out store' me' out (room_refusal out (quiet o)) (quiet o) answer
    saved_then me' answer x followed answered acked = kept_then store store' me out o r (empty_half + body_size r) 2 stands saved me' answer x followed answered acked

  -- a step over memory that has the same content and more room
  module _ (store store' : S) (me near me' : Running) (out out' : Outgoing) (server : server_of d near ≡ server_of d me) (setup : setup_of near ≡ setup_of me) where
    pub with_more_room : (o : Outcome) (r : Result Answer StepFault) → Steps model d store near out store' me' out' (room_refusal out o) o r
        → Steps model d store me out store' me' out' (room_refusal out o) o r
    with_more_room o (Ok answer) x = record { may = x.may; answered = x.answered; server_is = x.server_is; setup_same = x.setup_same ∙ setup; stands = x.stands; told_same = x.told_same; crash = x.crash; sent = x.sent }
    with_more_room o (Err NoMemory) x = record { store_same = x.store_same; server_same = x.server_same ∙ server; setup_same = x.setup_same ∙ setup; stands = x.stands }
    with_more_room o (Err (Refused refusal)) x = record {
      judged_so = x.judged_so;
      untouched = record { store_same = x.untouched.store_same; server_same = x.untouched.server_same ∙ server; setup_same = x.untouched.setup_same ∙ setup; stands = x.untouched.stands };
    }
    with_more_room o (Err Halted) x = record { may = x.may; stores = x.stores; half = x.half; in_doubt = x.in_doubt; told_same = x.told_same; crash = x.crash; cause = x.cause }

  -- the same outcome and refusal, written in another way
  pub renamed : (store store' : S) (me me' : Running) (out out' : Outgoing) (judged judged2 : Option Refusal) (o o2 : Outcome) (r : Result Answer StepFault) → judged ≡ judged2 → o ≡ o2
      → Steps model d store me out store' me' out' judged o r → Steps model d store me out store' me' out' judged2 o2 r
  renamed store store' me me' out out' judged judged2 o o2 r also is x =
      subst (λ p. Steps model d store me out store' me' out' judged2 p r) is (subst (λ j. Steps model d store me out store' me' out' j o r) also x)

  -- where it is judged by its room alone
  pub reworded : (store store' : S) (me me' : Running) (out out' : Outgoing) (o o2 : Outcome) (r : Result Answer StepFault) → o ≡ o2
      → Steps model d store me out store' me' out' (room_refusal out o) o r → Steps model d store me out store' me' out' (room_refusal out o2) o2 r
  reworded store store' me me' out out' o o2 r is x = renamed store store' me me' out out' (room_refusal out o) (room_refusal out o2) o o2 r (ap (room_refusal out) is) is x
