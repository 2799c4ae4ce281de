-- A move of a chunk, by what was told: what its mover wrote follows the rule of ports, what it read the old group gave, and each piece was moved.
use Rattle.std.proofs.Common.{◌≡◌, ◌≢◌, ℕ, suc, pred, ◌+◌, ◌*◌, ◌/◌, ◌<◌, ◌≤◌, inl, inr, unwrap_or, List, [], ◌∷◌, ◌++◌, length, map, take, drop, Option, Some, None, slice_get, arith, refl, sym, ap, subst, ◌∙◌, length-append, true}
use Rattle.std.proofs.lemmas.Bool.{cases_lt}
use Rattle.std.proofs.lemmas.List.{take-append-drop, take-append-le}
use Rattle.std.proofs.lemmas.Option.{none-some, same_Some}
use Rattle.std.proofs.Math.Seq.{length-take-le, take-append_seam}
use Rattle.std.proofs.lemmas.List.{length-take}
use Rattle.pf_base.specs.Asks.{chunk_of}
use Rattle.pf_base.specs.declared.asks.Ask.{Ask}
use Rattle.pf_base.specs.declared.asks.Ask.TheVariants as asks
use Rattle.pf_base.specs.Span.{Span}
use Rattle.pf_base.specs.declared.asks.Reply.{Reply}
use Rattle.pf_base.specs.declared.asks.Reply.TheVariants.{Bytes, Written}
use Rattle.pf_entry.specs.Ops.{Sector}
use Rattle.pf_law_registers.specs.Orders.{given as given_to}
use Rattle.pf_law_registers.proofs.AnswersKept.{acked_stays, answered_stays}
use Rattle.pf_law_registers.proofs.Lists.{got_mapped}
use Rattle.pf_law_positions.proofs.Answers.{prefix_taken, taken_before}
use Rattle.pf_law_positions.specs.Moves.{ChunkIsMoved, WasWritten, WereWritten}
use Rattle.pf_protocol.proofs.ForMoments.{legal_before}
use Rattle.pf_law_epochs.specs.Copying.{IsCarriedOut}
use Rattle.pf_law_epochs.proofs.MoverCarries.{were_carried}
use Rattle.pf_entry.specs.Sets.{empty}
use Rattle.pf_law_movers.specs.pf_law_ports.specs.Replies.{IsReplied, WasRead as ReadBack, AskWasWritten as WrittenBack}
use Rattle.pf_entry.specs.declared.ops.Op.{Op}
use Rattle.pf_entry.specs.declared.ops.Op.TheVariants.{Write}
use Rattle.pf_law_movers.specs.pf_group_network.proofs.Lists.{something_there}
use Rattle.pf_protocol.specs.declared.answers.Answer.{Answer}
use Rattle.pf_protocol.specs.declared.answers.Answer.TheVariants.{Read as ReadIs}
use Rattle.pf_protocol.specs.Answers.{IsLegal}
use Rattle.pf_protocol.specs.declared.events.Event.TheVariants.{Fetch, Submit}
use Rattle.pf_protocol.specs.declared.events.Happening.{Happening}
use Rattle.pf_protocol.specs.Groups.{Answered, Whole, ending}
use Rattle.pf_protocol.specs.Histories.{History, IsPrefix, replay}
use Rattle.pf_protocol.specs.Ports.{FollowsRule, WriteHasEnded, IsTarget, Submission, submitting}
use Rattle.pf_protocol.specs.Servers.{Setup}
use Rattle.pf_law_movers.specs.pf_law_ports.proofs.PortSteps.{follows}
use Rattle.pf_law_movers.specs.pf_law_service.proofs.Places.{map_get}
use Rattle.pf_law_positions.specs.Deeds.{BringsBy, Deed, Groups, Submits}
use Rattle.pf_move.specs.declared.mover.MoverAsk.{MoverAsk}
use Rattle.pf_move.specs.declared.mover.MoverAsk.TheVariants.{Reading, Writing}
use Rattle.pf_move.specs.declared.mover.MoveNext.{MoveNext}
use Rattle.pf_move.specs.declared.mover.MoveNext.TheVariants as nexts
use Rattle.pf_move.specs.Movers.{MoverIs, new_mover, piece}
use Rattle.pf_move.specs.Turns.{Copy, MoverTurn, Turns as AreTurns, answers, pieces_given, is_switched, pieces_written}
use Rattle.pf_law_movers.specs.pf_chunk.specs.Driving.{event_of_ask}
use Rattle.pf_law_movers.specs.pf_chunk.specs.Runs.{ChunkRun, mover_port}
use Rattle.pf_volume.specs.Volumes.{Extent, IsVolume}
use Rattle.pf_law_movers.specs.pf_world_moments.specs.Moments.{Carries, Hands, Heard, Moment}
use Rattle.pf_law_movers.specs.Carrying.{group_asked, moves_of, reply_of_heard}
use Rattle.pf_law_movers.specs.Epochs.{epoch_of, group_of_epoch, groups_in_turn}
use Rattle.pf_law_movers.specs.Handing.{reach_at, reached}
use Rattle.pf_law_movers.specs.Hosted.{among_copies, history_of_run}
use Rattle.pf_law_movers.specs.Movers.{IsCarriedBack, IsOnTheMove, carried_ask, group_of_role, role_of_ask, role_of_reply}
use Rattle.pf_law_movers.specs.Pasts.{MoverTrace, PortTrace, mover_trace, past_in, trace_in}
use Rattle.pf_law_movers.proofs.AskGroups.{none_anew}
use Rattle.pf_law_movers.proofs.MoverHandovers.{all_carried_on, carried_writes_stay}
use Rattle.pf_law_movers.proofs.ChunkEpochs.{AreBegun, begun_until, epoch_rises, group_stays, same_home, some_group}
use Rattle.pf_law_movers.proofs.OfMoves.{AreGroupsOf, IsOfMoves, are_begun, begun_first, cut_by}
use Rattle.pf_law_movers.proofs.ListPlaces.{at_seam, get_first, get_take, parted, some_within, take_fewer, take_goes_on, take_one_more}
use Rattle.pf_law_movers.proofs.ToldUpTo.{all_within, carried_reaches, hands_reach, reached_more, reaches}
use Rattle.pf_law_movers.proofs.RunningMoves.{IsUnderWay, is_called, under_way, wanted}
use Rattle.pf_law_movers.proofs.MoverWrites.{writes_in}
use Rattle.pf_law_movers.proofs.PortTraces.{moves_longer}
use Rattle.pf_law_movers.proofs.MoverCalls.{Answered as AnsweredAt, IsAfter, IsCallAt, answered_at, bytes_of, each_call, extra, is_after, is_answer, is_given, last_asked, last_move, turns_before, turns_stay, written_both, written_of}

-- nothing was ever read
pub no_answer : Answered
no_answer = record { number = 0; server = 0; term = 0; range = record { first = 0; count = 0 }; base = 0; applied = empty; bytes = [] }

-- what was submitted for an ask
record IsWriteAsk (ask : Ask) (op : Op) : Type 0 where
  copy : Copy
  asks_it : ask ≡ asks.Write (chunk_of ask) copy.span copy.sectors
  is_op : op ≡ Write copy.span copy.sectors

asked_write : (ask : Ask) (server its : ℕ) (op : Op) → event_of_ask ask server ≡ Submit its op → IsWriteAsk ask op
asked_write (asks.Write chunk span sectors) server its op is = record { copy = record { span = span; sectors = sectors }; asks_it = refl; is_op = cc }
asked_write (asks.Read chunk span) server its op is = absurd (cc)

reads_in : (ask : Ask) (server its : ℕ) (range : Span) → event_of_ask ask server ≡ Fetch its range → role_of_ask ask ≡ Reading
reads_in (asks.Read chunk span) server its range is = refl
reads_in (asks.Write chunk span sectors) server its range is = absurd (cc)

-- What deeds owe to a move of a chunk out of the group k of this epoch, or into it

-- whatever the deeds brought of the epoch came before each read of the mover's in that move
abbrev pub AreHeardBefore : Extent → (told : List Moment) → List Deed → (chunk epoch k : ℕ) → Type 0
AreHeardBefore v told ds chunk epoch k =
    (q place : ℕ)
    → slice_get told q ≡ Some (Hands mover_port k place)
    → IsOnTheMove v.chunks (take q told) chunk
    → epoch_of (take q told) chunk ≡ epoch
    → (moment by : ℕ) (deed : Deed)
    → slice_get ds moment ≡ Some deed
    → BringsBy chunk epoch by deed
    → by ≤ place

-- what they submit to the next epoch's group, they submit after the move has ended, behind all that was told of it then
abbrev pub AreHandedAfter : (told : List Moment) → List Deed → (chunk epoch k : ℕ) → Type 0
AreHandedAfter told ds chunk epoch k =
    (moment client by : ℕ)
    → slice_get ds moment ≡ Some (Submits client chunk (suc epoch) by)
    → (q : ℕ) × (suc epoch ≤ epoch_of (take q told) chunk) × (reached k (take q told) ≤ by)

module _ (v : Extent) (chunks : List ChunkRun) (whole : List Moment) (run : IsOfMoves v chunks whole) (volume : IsVolume v) (told rest : List Moment) (part : whole ≡ told ++ rest) (upto : ℕ → ℕ) (groups : Groups)
    (are : AreGroupsOf v chunks told upto groups) where
  pub begun : AreBegun v.chunks told
  begun = begun_first v chunks whole run.moves told rest part

  pub begun_at : (p : ℕ) → AreBegun v.chunks (take p told)
  begun_at p = begun_until v.chunks (take p told) (drop p told) (subst (AreBegun v.chunks) (sym (take-append-drop p told)) begun)

  pub whole_at : (p : ℕ) (x : Moment) → slice_get told p ≡ Some x → whole ≡ take p told ++ x ∷ (drop (suc p) told ++ rest)
  whole_at p x at = cut_by v chunks whole run.moves told rest part p x at

  pub till_end : (p chunk epoch k : ℕ) → group_of_epoch (take p told) chunk epoch ≡ Some k → group_of_epoch told chunk epoch ≡ Some k
  till_end p chunk epoch k at = ap (λ (b : List Moment). group_of_epoch b chunk epoch) (sym (take-append-drop p told)) ∙ group_stays (take p told) (drop p told) chunk epoch k at

  -- a move of a chunk, from the group of one epoch into that of the next
  module _ (chunk e : ℕ) (small : chunk < v.chunks) (k0 k1 : ℕ) (c0 c1 : ChunkRun) (old_at : group_of_epoch told chunk e ≡ Some k0) (new_at : group_of_epoch told chunk (suc e) ≡ Some k1) (old_there : slice_get chunks k0 ≡ Some c0) (new_there : slice_get chunks k1 ≡ Some c1)
      (turns : List MoverTurn) (moves_at : slice_get (moves_of told chunk) e ≡ Some turns) where
    pub old_setup : groups.setup chunk e ≡ c0.group.setup
    old_setup = are.setup chunk e k0 c0 old_at old_there

    pub old_history : groups.history chunk e ≡ take (upto k0) c0.group.history
    old_history = are.history chunk e k0 c0 old_at old_there

    pub new_setup : groups.setup chunk (suc e) ≡ c1.group.setup
    new_setup = are.setup chunk (suc e) k1 c1 new_at new_there

    pub new_history : groups.history chunk (suc e) ≡ take (upto k1) c1.group.history
    new_history = are.history chunk (suc e) k1 c1 new_at new_there

    old_far : reached k0 told ≤ upto k0
    old_far = are.far k0 c0 old_there

    new_far : reached k1 told ≤ upto k1
    new_far = are.far k1 c1 new_there

    pub all_calls : (mover : MoverIs) × AreTurns (new_mover chunk (v.sectors / 8)) turns mover
    all_calls =
        let more = turns_stay chunk e told rest turns moves_at in
        let calls = run.moves.calls volume chunk e (turns ++ more.0) small (ap (λ (b : List Moment). slice_get (moves_of b chunk) e) part ∙ more.1) in
        turns_before turns more.0 (new_mover chunk (v.sectors / 8)) calls.0 calls.1

    -- at this place the move goes on
    pub record IsInMove (p : ℕ) : Type 0 where
      pub moving : IsOnTheMove v.chunks (take p told) chunk
      pub now : epoch_of (take p told) chunk ≡ e

    abbrev pub goes : (p : ℕ) → IsInMove p → IsUnderWay v.chunks (take p told) chunk
    goes p m = under_way v.chunks (take p told) (begun_at p) chunk m.moving

    pub old_then : (p : ℕ) → epoch_of (take p told) chunk ≡ e → group_of_epoch (take p told) chunk e ≡ Some k0
    old_then p now =
        let some = some_group v.chunks (take p told) (begun_at p) chunk e (omega (arith, now)) in
        some.1 ∙ ap (λ g. Some g) (same_Some some.0 k0 (sym (till_end p chunk e some.0 some.1) ∙ old_at))

    pub new_then : (p : ℕ) → IsInMove p → group_of_epoch (take p told) chunk (suc e) ≡ Some k1
    new_then p m =
        let groups_are = m.moving.groups in
        let now = m.now in
        let some = something_there (groups_in_turn (take p told) chunk) (suc e) (omega (arith, groups_are, now)) in
        some.1 ∙ ap (λ g. Some g) (same_Some some.0 k1 (sym (till_end p chunk (suc e) some.0 some.1) ∙ new_at))

    pub turns_then : (p : ℕ) (m : IsInMove p) → slice_get (moves_of (take p told) chunk) e ≡ Some (goes p m).turns
    turns_then p m = ap (slice_get (moves_of (take p told) chunk)) (sym m.now) ∙ last_move v.chunks (take p told) chunk (goes p m)

    pub begins_at : (p : ℕ) (m : IsInMove p) → (more : List MoverTurn) × (turns ≡ (goes p m).turns ++ more)
    begins_at p m =
        let stay = turns_stay chunk e (take p told) (drop p told) (goes p m).turns (turns_then p m) in
        (stay.0, same_Some turns ((goes p m).turns ++ stay.0) (sym moves_at ∙ ap (λ (b : List Moment). slice_get (moves_of b chunk) e) (sym (take-append-drop p told)) ∙ stay.1))

    -- What was written

    pub record IsWriteAt (j : ℕ) (a : Submission) : Type 0 where
      pub moment : ℕ
      pub place : ℕ
      pub at : slice_get told moment ≡ Some (Hands mover_port k1 place)
      pub is : slice_get c1.group.history place ≡ Some (submitting a)
      pub since : a.before ≡ take place c1.group.history
      pub in_move : IsInMove moment
      pub copy : Copy
      pub its : ℕ
      pub op : a.op ≡ Write copy.span copy.sectors
      pub wants : wanted chunk (goes moment in_move).turns ≡ Some (asks.Write its copy.span copy.sectors)
      pub number : a.write ≡ length (goes moment in_move).turns
      pub stands : slice_get (mover_trace c1.group.history k1 Writing v.chunks (take (suc moment) told)).writes j ≡ Some a

    pub write_at : (j : ℕ) (a : Submission) → slice_get (mover_trace c1.group.history k1 Writing v.chunks told).writes j ≡ Some a → IsWriteAt j a
    write_at j a at =
        let w = (all_carried_on c1.group.history k1 v.chunks told).0 j a at in
        let q = w.handed.moment in
        let x : Moment = Hands mover_port k1 w.handed.place in
        let h = (run.moves.on (take q told) (drop (suc q) told ++ rest) mover_port k1 w.handed.place (whole_at q x w.handed.at) (omega arith)).1 in
        let c_is : h.group ≡ c1 = same_Some h.group c1 (sym h.there ∙ new_there) in
        let event : event_of_ask h.ask h.server ≡ Submit a.server a.op =
        ap (λ (y : Happening). y.event) (same_Some (record { event = event_of_ask h.ask h.server; answer = h.answer }) (record { event = Submit a.server a.op; answer = a.answer }) (sym h.is ∙ ap (λ (d : ChunkRun). slice_get d.group.history w.handed.place) c_is ∙ w.handed.is)) in
        let role = writes_in h.ask h.server a.server a.op event in
        let its_epoch = epoch_of (take q told) h.chunk in
        let group : group_of_epoch (take q told) h.chunk (suc its_epoch) ≡ Some k1 = subst (λ r. group_of_role (take q told) h.chunk r ≡ Some k1) role h.of in
        let home = same_home v.chunks told begun h.chunk chunk (suc its_epoch) (suc e) k1 h.moving.small small (till_end q h.chunk (suc its_epoch) k1 group) new_at in
        let same_epoch = home.1 in
        let m : IsInMove q = record { moving = subst (IsOnTheMove v.chunks (take q told)) home.0 h.moving; now = ap (epoch_of (take q told)) (sym home.0) ∙ (let one : its_epoch ≡ e = omega (arith, same_epoch) in one) } in
        let asked = asked_write h.ask h.server a.server a.op event in
        let wants : wanted chunk (goes q m).turns ≡ Some h.ask = sym (goes q m).asked ∙ ap (carried_ask (take q told)) (sym home.0) ∙ h.pending in
        let used = (goes q m).new c1.group.history k1 (ap (λ i. group_of_epoch (take q told) chunk (suc i)) m.now ∙ new_then q m) in
        record {
          moment = q;
          place = w.handed.place;
          at = w.handed.at;
          is = w.handed.is;
          since = w.handed.since;
          in_move = m;
          copy = asked.copy;
          its = chunk_of h.ask;
          op = asked.is_op;
          wants = wants ∙ ap (λ b. Some b) asked.asks_it;
          number = w.handed.asked ∙ used.asks_are h.ask wants role;
          stands = w.stands;
        }

    -- Numbers of writes

    -- the call before which so many had been made asked to write
    pub record IsNumber (n : ℕ) : Type 0 where
      pub first : List MoverTurn
      pub reply : Option Reply
      pub copy : Copy
      pub more : List MoverTurn
      pub front : take n turns ≡ first ++ record { reply = reply; next = nexts.Write copy.span copy.sectors } ∷ []
      pub all : turns ≡ take n turns ++ more
      pub count : n ≡ suc (length first)

    pub number_at : (p : ℕ) (m : IsInMove p) (its : ℕ) (copy : Copy) → wanted chunk (goes p m).turns ≡ Some (asks.Write its copy.span copy.sectors) → (number : IsNumber (length (goes p m).turns)) × (number.copy ≡ copy)
    number_at p m its copy wants =
        let ts = (goes p m).turns in
        let l = last_asked chunk its ts copy wants in
        let begins = begins_at p m in
        let front : take (length ts) turns ≡ ts = ap (take (length ts)) begins.1 ∙ take-append_seam ts begins.0 in
        let last : MoverTurn = record { reply = l.reply; next = nexts.Write copy.span copy.sectors } in
        let long = ap length l.whole ∙ length-append l.first (last ∷ []) in
        (record { first = l.first; reply = l.reply; copy = copy; more = begins.0; front = front ∙ l.whole; all = begins.1 ∙ ap (λ l. l ++ begins.0) (sym front); count = omega (arith, long) }, refl)

    abbrev pub place_of : ℕ → ℕ
    place_of n = pred (length (pieces_written (take n turns)))

    pub its_place : (n : ℕ) (x : IsNumber n) → length (pieces_written (take n turns)) ≡ suc (length (pieces_written x.first))
    its_place n x =
        let last : MoverTurn = record { reply = x.reply; next = nexts.Write x.copy.span x.copy.sectors } in
        let both = ap (λ ts. length (pieces_written ts)) x.front ∙ ap length (written_both x.first (last ∷ [])) ∙ length-append (pieces_written x.first) (pieces_written (last ∷ [])) in
        omega (arith, both)

    pub place_is : (n : ℕ) (x : IsNumber n) → place_of n ≡ length (pieces_written x.first)
    place_is n x = ap pred (its_place n x)

    -- it stands there among all writes
    pub copy_at : (n : ℕ) (x : IsNumber n) → slice_get (pieces_written turns) (place_of n) ≡ Some x.copy
    copy_at n x =
        let last : MoverTurn = record { reply = x.reply; next = nexts.Write x.copy.span x.copy.sectors } in
        let place = place_is n x in
        ap (λ ts. slice_get (pieces_written ts) (place_of n)) x.all ∙ ap (λ l. slice_get l (place_of n)) (written_both (take n turns) x.more)
        ∙ get_first (pieces_written (take n turns)) (pieces_written x.more) (place_of n) x.copy
        (ap (λ ts. slice_get (pieces_written ts) (place_of n)) x.front ∙ ap (λ l. slice_get l (place_of n)) (written_both x.first (last ∷ [])) ∙ at_seam (pieces_written x.first) [] x.copy (place_of n) place)

    -- so many writes come before a later number
    pub number_less : (n m : ℕ) (x : IsNumber n) (y : IsNumber m) → n < m → length (pieces_written (take n turns)) < length (pieces_written (take m turns))
    number_less n m x y low =
        let last : MoverTurn = record { reply = y.reply; next = nexts.Write y.copy.span y.copy.sectors } in
        let count = y.count in
        let front : take n turns ≡ take n y.first = sym (take_fewer turns m n (omega (arith, low))) ∙ ap (take n) y.front ∙ take-append-le n y.first (last ∷ []) (omega (arith, low, count)) in
        let parts = ap pieces_written (sym (take-append-drop n y.first)) ∙ written_both (take n y.first) (drop n y.first) in
        let long = ap length parts ∙ length-append (pieces_written (take n y.first)) (pieces_written (drop n y.first)) in
        let same = ap (λ ts. length (pieces_written ts)) front in
        let its = its_place m y in
        omega (arith, long, same, its)

    pub number_place : (n m : ℕ) (x : IsNumber n) (y : IsNumber m) → place_of n < place_of m → n < m
    number_place n m x y low = elim (cases_lt n m) [
      | inl less ↦ less
      | inr not_less ↦ elim (cases_lt m n) [
        | inl more ↦ let back = number_less m n y x more in
            let a = its_place n x in let b = its_place m y in let a_is = place_is n x in let b_is = place_is m y in absurd (omega (arith, back, low, a, b, a_is, b_is))
        | inr not_more ↦ let same : n ≡ m = omega (arith, not_less, not_more) in absurd (let equal = ap place_of same in omega (arith, equal, low))
      ]
    ]

    pub number_same : (n m : ℕ) (x : IsNumber n) (y : IsNumber m) → place_of n ≡ place_of m → n ≡ m
    number_same n m x y same =
        let a = its_place n x in
        let b = its_place m y in
        let a_is = place_is n x in
        let b_is = place_is m y in
        elim (cases_lt n m) [
          | inl less ↦ let up = number_less n m x y less in absurd (omega (arith, up, same, a, b, a_is, b_is))
          | inr not_less ↦ elim (cases_lt m n) [
            | inl more ↦ let up = number_less m n y x more in absurd (omega (arith, up, same, a, b, a_is, b_is))
            | inr not_more ↦ omega (arith, not_less, not_more)
          ]
        ]

    pub number_rises : (n m : ℕ) (x : IsNumber n) (y : IsNumber m) → n ≤ m → place_of n ≤ place_of m
    number_rises n m x y low = elim (cases_lt n m) [
      | inl less ↦ let up = number_less n m x y less in
          let a = its_place n x in let b = its_place m y in let a_is = place_is n x in let b_is = place_is m y in omega (arith, up, a, b, a_is, b_is)
      | inr not_less ↦ let same : n ≡ m = omega (arith, low, not_less) in let equal = ap place_of same in omega (arith, equal)
    ]

    -- The port of the move

    abbrev pub trace_writes : List Submission
    trace_writes = (mover_trace c1.group.history k1 Writing v.chunks told).writes

    abbrev pub copied : Submission → Submission
    copied a = record a { write = place_of a.write }

    pub moved_are : groups.moved chunk e ≡ map copied trace_writes
    moved_are =
        are.moved chunk e k1 new_at
        ∙ ap (λ o. map (among_copies (unwrap_or (slice_get (moves_of told chunk) e) [])) (mover_trace (history_of_run o) k1 Writing v.chunks told).writes) new_there
        ∙ ap (λ o. map (among_copies (unwrap_or o [])) trace_writes) moves_at

    pub of_moved : (j : ℕ) (a : Submission) → slice_get (groups.moved chunk e) j ≡ Some a → (b : Submission) × (slice_get trace_writes j ≡ Some b) × (copied b ≡ a)
    of_moved j a at = got_mapped copied trace_writes j a (ap (λ (l : List Submission). slice_get l j) (sym moved_are) ∙ at)

    pub number_of : (j : ℕ) (a : Submission) → slice_get trace_writes j ≡ Some a → IsNumber a.write
    number_of j a at = let w = write_at j a at in subst IsNumber (sym w.number) (number_at w.moment w.in_move w.its w.copy w.wants).0

    pub handed : (j : ℕ) (a : Submission) → slice_get (groups.moved chunk e) j ≡ Some a → (copy : Copy) × (slice_get (pieces_written turns) a.write ≡ Some copy) × (a.op ≡ Write copy.span copy.sectors)
    handed j a at =
        let b = of_moved j a at in
        let w = write_at j b.0 b.1 in
        let x = number_at w.moment w.in_move w.its w.copy w.wants in
        let there = copy_at (length (goes w.moment w.in_move).turns) x.0 in
        let place : place_of (length (goes w.moment w.in_move).turns) ≡ a.write = ap place_of (sym w.number) ∙ ap (λ (s : Submission). s.write) b.2 in
        (w.copy, ap (slice_get (pieces_written turns)) (sym place) ∙ there ∙ ap (λ c. Some c) x.1, ap (λ (s : Submission). s.op) (sym b.2) ∙ w.op)

    -- It follows the rule of ports, with the places of its writes for their numbers

    abbrev whole_writes : List Submission
    whole_writes = (mover_trace c1.group.history k1 Writing v.chunks whole).writes

    driven_rule : FollowsRule c1.group.setup c1.group.history whole_writes
    driven_rule =
        let port = run.moves.driven k1 Writing c1 new_there in
        follows c1.group.setup (past_in c1.group.history (mover_trace c1.group.history k1 Writing v.chunks whole)) port.0 port.1 (run.legal k1 c1 new_there)

    written_stays : (j : ℕ) (a : Submission) → slice_get trace_writes j ≡ Some a → slice_get whole_writes j ≡ Some a
    written_stays j a at =
        let away = none_anew v.chunks told rest (subst (AreBegun v.chunks) part (are_begun v chunks whole run.moves)) chunk (suc e) k1 small new_at in
        ap (λ (b : List Moment). slice_get (mover_trace c1.group.history k1 Writing v.chunks b).writes j) part ∙ carried_writes_stay c1.group.history k1 v.chunks told rest away j a at

    -- an earlier one of the whole run's was told so far
    written_before : (j i : ℕ) (a b : Submission) → slice_get trace_writes i ≡ Some b → j < i → slice_get whole_writes j ≡ Some a → slice_get trace_writes j ≡ Some a
    written_before j i a b at low there =
        let within = some_within trace_writes i b at in
        let own = something_there trace_writes j (omega (arith, within, low)) in
        own.1 ∙ ap (λ x. Some x) (same_Some own.0 a (sym (written_stays j own.0 own.1) ∙ there))

    happened_so : (j : ℕ) (a : Submission) → slice_get trace_writes j ≡ Some a → IsPrefix (a.before ++ submitting a ∷ []) (groups.history chunk (suc e))
    happened_so j a at =
        let w = write_at j a at in
        let to = reaches k1 told w.moment (Hands mover_port k1 w.place) w.at in
        let is = hands_reach k1 (take w.moment told) mover_port w.place in
        let far = new_far in
        let more = take_goes_on c1.group.history (upto k1) (suc w.place) (omega (arith, to, is, far)) in
        subst (λ h. IsPrefix (a.before ++ submitting a ∷ []) h) (sym new_history) (record {
          rest = more.0;
          whole = ap (λ b. (b ++ submitting a ∷ []) ++ more.0) w.since ∙ ap (λ b. b ++ more.0) (sym (take_one_more c1.group.history w.place (submitting a) w.is)) ∙ sym more.1;
        })

    ended_so : (j i : ℕ) (a b : Submission) → slice_get trace_writes j ≡ Some a → slice_get trace_writes i ≡ Some b → a.write < b.write → WriteHasEnded (groups.setup chunk (suc e)) (groups.moved chunk e) b.before (place_of a.write)
    ended_so j i a b at its low =
        let ended = driven_rule.waits j i a b (written_stays j a at) (written_stays i b its) low in
        let same = ended.same in
        let earlier : ended.m < i = elim (cases_lt ended.m i) [
          | inl sooner ↦ sooner
          | inr not_sooner ↦ elim (cases_lt i ended.m) [
            | inl later ↦ let up = driven_rule.ascends i ended.m b ended.final (written_stays i b its) ended.at later in absurd (omega (arith, up, same, low))
            | inr not_later ↦
                let here : ended.m ≡ i = omega (arith, not_sooner, not_later) in
                let one = ap (λ (s : Submission). s.write) (same_Some ended.final b (sym ended.at ∙ ap (slice_get whole_writes) here ∙ written_stays i b its)) in absurd (omega (arith, one, same, low))
          ]
        ] in
        let final_at = written_before ended.m i ended.final b its earlier ended.at in
        subst (λ (setup : Setup). WriteHasEnded setup (groups.moved chunk e) b.before (place_of a.write)) (sym new_setup)
        (subst (λ (l : List Submission). WriteHasEnded c1.group.setup l b.before (place_of a.write)) (sym moved_are) (record {
          m = ended.m;
          final = copied ended.final;
          at = map_get copied trace_writes ended.m ended.final final_at;
          same = ap place_of ended.same;
          no_later = λ n s there number.
              let t = got_mapped copied trace_writes n s there in
              let equal = number_same t.0.write a.write (number_of n t.0 t.1) (number_of j a at) (ap (λ (x : Submission). x.write) t.2 ∙ number) in
              ended.no_later n t.0 (written_stays n t.0 t.1) equal;
          answered = record {
            target = record { server = ended.answered.target.server; leader = ended.answered.target.leader; runs = ended.answered.target.runs; serves = ended.answered.target.serves };
            took_place = ended.answered.took_place;
            k = ended.answered.k;
            acked = ended.answered.acked;
            at = ended.answered.at;
            in_term = ended.answered.in_term;
            in_slot = ended.answered.in_slot;
          };
        }))

    pub rule : FollowsRule (groups.setup chunk (suc e)) (groups.history chunk (suc e)) (groups.moved chunk e)
    rule = record {
      happened = λ j a at. let x = of_moved j a at in subst (λ (s : Submission). IsPrefix (s.before ++ submitting s ∷ []) (groups.history chunk (suc e))) x.2 (happened_so j x.0 x.1);
      in_order = λ j i a b at its low.
          let x = of_moved j a at in
          let y = of_moved i b its in
          subst (λ (s : Submission). IsPrefix (s.before ++ submitting s ∷ []) b.before) x.2
          (subst (λ (s : Submission). IsPrefix (x.0.before ++ submitting x.0 ∷ []) s.before) y.2 (driven_rule.in_order j i x.0 y.0 (written_stays j x.0 x.1) (written_stays i y.0 y.1) low));
      ascends = λ j i a b at its low.
          let x = of_moved j a at in
          let y = of_moved i b its in
          let up = number_rises x.0.write y.0.write (number_of j x.0 x.1) (number_of i y.0 y.1) (driven_rule.ascends j i x.0 y.0 (written_stays j x.0 x.1) (written_stays i y.0 y.1) low) in
          let one = ap (λ (s : Submission). s.write) x.2 in
          let two = ap (λ (s : Submission). s.write) y.2 in omega (arith, up, one, two);
      no_lower = λ j i a b at its low.
          let x = of_moved j a at in
          let y = of_moved i b its in
          subst (λ (s : Submission). (t : IsTarget (groups.setup chunk (suc e)) s) (u : IsTarget (groups.setup chunk (suc e)) b) → t.server.durable.term ≤ u.server.durable.term) x.2
          (subst (λ (s : Submission). (t : IsTarget (groups.setup chunk (suc e)) (copied x.0)) (u : IsTarget (groups.setup chunk (suc e)) s) → t.server.durable.term ≤ u.server.durable.term) y.2
          (subst (λ (setup : Setup). (t : IsTarget setup (copied x.0)) (u : IsTarget setup (copied y.0)) → t.server.durable.term ≤ u.server.durable.term) (sym new_setup)
          (λ t u. driven_rule.no_lower j i x.0 y.0 (written_stays j x.0 x.1) (written_stays i y.0 y.1) low (record { server = t.server; leader = t.leader; runs = t.runs; serves = t.serves }) (record { server = u.server; leader = u.leader; runs = u.runs; serves = u.serves }))));
      again = λ j i a b at its low same.
          let x = of_moved j a at in
          let y = of_moved i b its in
          let number = number_same x.0.write y.0.write (number_of j x.0 x.1) (number_of i y.0 y.1) (ap (λ (s : Submission). s.write) x.2 ∙ same ∙ sym (ap (λ (s : Submission). s.write) y.2)) in
          subst (λ (s : Submission). (t : IsTarget (groups.setup chunk (suc e)) s) (u : IsTarget (groups.setup chunk (suc e)) b) → t.server.durable.term ≡ u.server.durable.term → ending s.answer ≢ Whole) x.2
          (subst (λ (s : Submission). (t : IsTarget (groups.setup chunk (suc e)) (copied x.0)) (u : IsTarget (groups.setup chunk (suc e)) s) → t.server.durable.term ≡ u.server.durable.term → ending x.0.answer ≢ Whole) y.2
          (subst (λ (setup : Setup). (t : IsTarget setup (copied x.0)) (u : IsTarget setup (copied y.0)) → t.server.durable.term ≡ u.server.durable.term → ending x.0.answer ≢ Whole) (sym new_setup)
          (λ t u. driven_rule.again j i x.0 y.0 (written_stays j x.0 x.1) (written_stays i y.0 y.1) low number (record { server = t.server; leader = t.leader; runs = t.runs; serves = t.serves }) (record { server = u.server; leader = u.leader; runs = u.runs; serves = u.serves }))));
      waits = λ j i a b at its low.
          let x = of_moved j a at in
          let y = of_moved i b its in
          let one = ap (λ (s : Submission). s.write) x.2 in
          let two = ap (λ (s : Submission). s.write) y.2 in
          let number = number_place x.0.write y.0.write (number_of j x.0 x.1) (number_of i y.0 y.1) (omega (arith, low, one, two)) in
          subst (λ n. WriteHasEnded (groups.setup chunk (suc e)) (groups.moved chunk e) b.before n) one
          (subst (λ (s : Submission). WriteHasEnded (groups.setup chunk (suc e)) (groups.moved chunk e) s.before (place_of x.0.write)) y.2 (ended_so j i x.0 y.0 x.1 y.1 number));
    }

    -- What was heard

    abbrev pieces : ℕ
    pieces = v.sectors / 8

    call_at : (i : ℕ) (t : MoverTurn) → slice_get turns i ≡ Some t → IsCallAt v.chunks chunk small told e (take i turns) t
    call_at i t at = each_call v.chunks chunk small told begun e turns i t moves_at at

    answered_then : (i : ℕ) (t : MoverTurn) → slice_get turns i ≡ Some t → AnsweredAt chunk pieces (take i turns) t.reply
    answered_then i t at =
        let calls = all_calls in
        answered_at chunk pieces (take i turns) t (drop (suc i) turns) calls.0 (subst (λ ts. AreTurns (new_mover chunk pieces) ts calls.0) (parted turns i t at) calls.1)

    record IsHeardAt (i : ℕ) (reply : Reply) : Type 0 where
      moment : ℕ
      heard : Heard
      next : MoveNext
      at : slice_get told moment ≡ Some (Carries chunk (Some heard) next)
      is : heard.reply ≡ reply
      in_move : IsInMove moment
      turns_are : (goes moment in_move).turns ≡ take i turns
      back : IsCarriedBack v.chunks chunks (take moment told) chunk heard

    heard_at : (i : ℕ) (t : MoverTurn) (reply : Reply) → slice_get turns i ≡ Some t → t.reply ≡ Some reply → IsHeardAt i reply
    heard_at i t reply at is =
        let c = call_at i t at in
        by c c.heard refl (sym (ap (λ (u : MoverTurn). u.reply) c.is) ∙ is)
      where
        by : (c : IsCallAt v.chunks chunk small told e (take i turns) t) (o : Option Heard) → c.heard ≡ o → reply_of_heard c.heard ≡ Some reply → IsHeardAt i reply
        by c None same told_so = absurd (none-some reply (sym (ap reply_of_heard same) ∙ told_so))
        by c (Some h) same told_so =
            let x : slice_get told c.moment ≡ Some (Carries chunk (Some h) c.next) = c.at ∙ ap (λ o. Some (Carries chunk o c.next)) same in
            let m : IsInMove c.moment = record { moving = c.moving; now = c.now } in record {
              moment = c.moment;
              heard = h;
              next = c.next;
              at = x;
              is = same_Some h.reply reply (sym (ap reply_of_heard same) ∙ told_so);
              in_move = m;
              turns_are = same_Some (goes c.moment m).turns (take i turns) (sym (turns_then c.moment m) ∙ c.turns);
              back = run.moves.back (take c.moment told) (drop (suc c.moment) told ++ rest) chunk h c.next (whole_at c.moment (Carries chunk (Some h) c.next) x);
            }

    -- a reply of one of the groups, of its history that far
    back_is : (role : MoverAsk) (k number : ℕ) (c group : ChunkRun) (p by : ℕ) (asked ask : Ask) (its reply : Reply) → number ≡ k → group ≡ c → asked ≡ ask → its ≡ reply → role_of_reply reply ≡ role
        → IsReplied group.group.setup (past_in (take by group.group.history) (mover_trace (take by group.group.history) number (role_of_reply its) v.chunks (take p told))) asked its
        → IsReplied c.group.setup (past_in (take by c.group.history) (mover_trace (take by c.group.history) k role v.chunks (take p told))) ask reply
    back_is role k number c group p by asked ask its reply same_number same_group same_ask same_reply of_role replied =
        subst (λ r. IsReplied c.group.setup (past_in (take by c.group.history) (mover_trace (take by c.group.history) k r v.chunks (take p told))) ask reply) of_role
        (subst (λ r. IsReplied c.group.setup (past_in (take by c.group.history) (mover_trace (take by c.group.history) k (role_of_reply r) v.chunks (take p told))) ask r) same_reply
        (subst (λ a. IsReplied c.group.setup (past_in (take by c.group.history) (mover_trace (take by c.group.history) k (role_of_reply its) v.chunks (take p told))) a its) same_ask
        (subst (λ (x : ChunkRun). IsReplied x.group.setup (past_in (take by x.group.history) (mover_trace (take by x.group.history) k (role_of_reply its) v.chunks (take p told))) asked its) same_group
        (subst (λ n. IsReplied group.group.setup (past_in (take by group.group.history) (mover_trace (take by group.group.history) n (role_of_reply its) v.chunks (take p told))) asked its) same_number replied))))

    -- Reads

    pub record WasReadAt (n : ℕ) (sectors : List (List ℕ)) : Type 0 where
      pub read : Answered
      pub gives : read.bytes ≡ sectors
      pub of_range : read.range ≡ piece n
      pub k : ℕ
      pub answered : slice_get (replay (groups.setup chunk e) (groups.history chunk e)).answered k ≡ Some read
      pub moment : ℕ
      pub in_move : IsInMove moment
      pub place : ℕ
      pub at : slice_get told moment ≡ Some (Hands mover_port k0 place)
      pub server : ℕ
      pub taken : slice_get (groups.history chunk e) place ≡ Some (record { event = Fetch server (piece n); answer = ReadIs read.number })

    -- a read that was handed on
    fetch_at : (q place server : ℕ) (range : Span) (answer : Answer) → slice_get told q ≡ Some (Hands mover_port k0 place) → slice_get c0.group.history place ≡ Some (record { event = Fetch server range; answer = answer }) → IsInMove q
    fetch_at q place server range answer at is =
        let x : Moment = Hands mover_port k0 place in
        let h = (run.moves.on (take q told) (drop (suc q) told ++ rest) mover_port k0 place (whole_at q x at) (omega arith)).1 in
        let c_is : h.group ≡ c0 = same_Some h.group c0 (sym h.there ∙ old_there) in
        let event : event_of_ask h.ask h.server ≡ Fetch server range =
        ap (λ (y : Happening). y.event) (same_Some (record { event = event_of_ask h.ask h.server; answer = h.answer }) (record { event = Fetch server range; answer = answer }) (sym h.is ∙ ap (λ (d : ChunkRun). slice_get d.group.history place) c_is ∙ is)) in
        let group : group_of_epoch (take q told) h.chunk (epoch_of (take q told) h.chunk) ≡ Some k0 = subst (λ r. group_of_role (take q told) h.chunk r ≡ Some k0) (reads_in h.ask h.server server range event) h.of in
        let home = same_home v.chunks told begun h.chunk chunk (epoch_of (take q told) h.chunk) e k0 h.moving.small small (till_end q h.chunk (epoch_of (take q told) h.chunk) k0 group) old_at in
        record { moving = subst (IsOnTheMove v.chunks (take q told)) home.0 h.moving; now = ap (epoch_of (take q told)) (sym home.0) ∙ home.1 }

    pub read_at : (n : ℕ) (sectors : List (List ℕ)) → slice_get (pieces_given turns) n ≡ Some sectors → WasReadAt n sectors
    read_at n sectors at =
        let g = is_given turns n sectors at in
        let a = subst (AnsweredAt chunk pieces (take g.i turns)) g.reply (answered_then g.i g.turn g.at) in
        let wants = bytes_of chunk pieces (take g.i turns) sectors a ∙ ap (λ i. Some (asks.Read chunk (piece i))) g.count in
        let h = heard_at g.i g.turn (Bytes sectors) g.at g.reply in
        let p = h.moment in
        let now = h.in_move.now in
        let by = h.heard.by in
        let ask : h.back.ask ≡ asks.Read chunk (piece n) = same_Some h.back.ask (asks.Read chunk (piece n)) (sym h.back.pending ∙ (goes p h.in_move).asked ∙ ap (wanted chunk) h.turns_are ∙ wants) in
        let of : group_asked (take p told) chunk (Bytes sectors) ≡ Some k0 = ap (group_of_epoch (take p told) chunk) now ∙ old_then p now in
        let number : h.back.number ≡ k0 = same_Some h.back.number k0 (sym h.back.of ∙ ap (group_asked (take p told) chunk) h.is ∙ of) in
        let group : h.back.group ≡ c0 = same_Some h.back.group c0 (sym h.back.there ∙ ap (slice_get chunks) number ∙ old_there) in
        let legal : IsLegal h.back.group.group.setup h.back.group.group.history = subst (λ (x : ChunkRun). IsLegal x.group.setup x.group.history) (sym group) (run.legal k0 c0 old_there) in
        let reach = carried_reaches k0 (take p told) chunk h.heard h.next (ap (group_asked (take p told) chunk) h.is ∙ of) in
        let to = reaches k0 told p (Carries chunk (Some h.heard) h.next) h.at in
        let far = old_far in
        from p by (omega (arith, reach, to, far)) (some_within told p (Carries chunk (Some h.heard) h.next) h.at) (back_is Reading k0 h.back.number c0 h.back.group p by h.back.ask (asks.Read chunk (piece n)) h.heard.reply (Bytes sectors) number group ask h.is refl (h.back.replied legal))
      where
        from : (p by : ℕ) → by ≤ upto k0 → p < length told → ReadBack c0.group.setup (past_in (take by c0.group.history) (mover_trace (take by c0.group.history) k0 Reading v.chunks (take p told))) (piece n) sectors → WasReadAt n sectors
        from p by low within w =
            let history = c0.group.history in
            let c = (all_carried_on (take by history) k0 v.chunks (take p told)).1 w.m w.final w.at in
            let q = c.moment in
            let x : Moment = Hands mover_port k0 c.place in
            let earlier = some_within (take p told) q x c.at in
            let long = length-take-le p told (omega (arith, within)) in
            let there : slice_get told q ≡ Some x = sym (get_take told p q (omega (arith, earlier, long))) ∙ c.at in
            let seen = some_within (take by history) c.place (record { event = Fetch w.final.server w.final.range; answer = w.final.answer }) c.is in
            let most = length-take by history in
            let event : slice_get history c.place ≡ Some (record { event = Fetch w.final.server w.final.range; answer = w.final.answer }) = sym (get_take history by c.place (omega (arith, seen, most))) ∙ c.is in
            let m = fetch_at q c.place w.final.server w.final.range w.final.answer there event in
            let to = reaches k0 told q x there in
            let is = hands_reach k0 (take q told) mover_port c.place in
            let far = old_far in
            let stays = answered_stays c0.group.setup (take by history) (take (upto k0) history) w.k w.read (taken_before by (upto k0) history low) w.answered in record {
              read = w.read;
              gives = w.gives;
              of_range = w.of_range;
              k = w.k;
              answered = ap (λ s. slice_get (replay s (groups.history chunk e)).answered w.k) old_setup ∙ ap (λ hs. slice_get (replay c0.group.setup hs).answered w.k) old_history ∙ stays;
              moment = q;
              in_move = m;
              place = c.place;
              at = there;
              server = w.final.server;
              taken =
                  ap (λ hs. slice_get hs c.place) old_history ∙ get_take history (upto k0) c.place (omega (arith, to, is, far)) ∙ event
                  ∙ ap (λ r. Some (record { event = Fetch w.final.server r; answer = w.final.answer })) w.asked ∙ ap (λ o. Some (record { event = Fetch w.final.server (piece n); answer = o })) w.numbered;
            }

    -- Acknowledgements

    pub record IsAckedAt (write : ℕ) (copy : Copy) : Type 0 where
      pub moment : ℕ
      pub in_move : IsInMove moment
      pub by : ℕ
      pub low : by ≤ reached k1 (take (suc moment) told)
      pub before : suc moment ≤ length told
      pub written_so : (now : History) (x : ℕ) (bytes : Sector) → IsPrefix (take by c1.group.history) now → given_to (Write copy.span copy.sectors) x ≡ Some bytes → WasWritten (groups.setup chunk (suc e)) (groups.moved chunk e) now x write

    -- the calls that are told later are more
    call_adds : (p q : ℕ) (m : IsInMove p) (l : IsInMove q) (heard : Option Heard) (next : MoveNext) → slice_get told p ≡ Some (Carries chunk heard next) → p < q → length (goes p m).turns < length (goes q l).turns
    call_adds p q m l heard next at low =
        let further = take_goes_on told q (suc p) low in
        let called = is_called v.chunks (take p told) chunk heard next (goes p m) in
        let turn : MoverTurn = record { reply = reply_of_heard heard; next = next } in
        let ended = (goes p m).ended ∙ m.now in
        let there : slice_get (moves_of (take (suc p) told) chunk) e ≡ Some ((goes p m).turns ++ turn ∷ []) =
        ap (λ (b : List Moment). slice_get (moves_of b chunk) e) (take_one_more told p (Carries chunk heard next) at) ∙ ap (λ ms. slice_get ms e) called.moves ∙ at_seam (goes p m).first [] ((goes p m).turns ++ turn ∷ []) e (sym ended) in
        let stay = turns_stay chunk e (take (suc p) told) further.0 ((goes p m).turns ++ turn ∷ []) there in
        let same : (goes q l).turns ≡ ((goes p m).turns ++ turn ∷ []) ++ stay.0 = same_Some (goes q l).turns (((goes p m).turns ++ turn ∷ []) ++ stay.0) (sym (turns_then q l) ∙ ap (λ (b : List Moment). slice_get (moves_of b chunk) e) further.1 ∙ stay.1) in
        let long = ap length same ∙ length-append ((goes p m).turns ++ turn ∷ []) stay.0 in
        omega (arith, long, length-append (goes p m).turns (turn ∷ []))

    -- the reply to a write, which was heard at this place
    module _ (p i write : ℕ) (copy : Copy) (heard : Heard) (next : MoveNext) (at : slice_get told p ≡ Some (Carries chunk (Some heard) next)) (m : IsInMove p)
        (wants : wanted chunk (goes p m).turns ≡ Some (asks.Write chunk copy.span copy.sectors)) (count : place_of (length (goes p m).turns) ≡ write)
        (since : reached k1 (take p told) ≤ heard.by) (by_low : heard.by ≤ length c1.group.history)
        (w : WrittenBack c1.group.setup (past_in (take heard.by c1.group.history) (mover_trace (take heard.by c1.group.history) k1 Writing v.chunks (take p told))) copy.span copy.sectors) where
      abbrev n : ℕ
      n = length (goes p m).turns

      abbrev past : History
      past = c1.group.history

      number_now : IsNumber n
      number_now = (number_at p m chunk copy wants).0

      asks_now : (mover_trace (take heard.by past) k1 Writing v.chunks (take p told)).asks ≡ n
      asks_now =
          let used = (goes p m).new (take heard.by past) k1 (ap (λ i. group_of_epoch (take p told) chunk (suc i)) m.now ∙ new_then p m) in
          used.asks_are (asks.Write chunk copy.span copy.sectors) wants refl

      same_trace : mover_trace (take heard.by past) k1 Writing v.chunks (take p told) ≡ mover_trace past k1 Writing v.chunks (take p told)
      same_trace =
          let long = length-take-le heard.by past by_low in
          let within = all_within k1 (take p told) (length (take heard.by past)) (omega (arith, since, long)) in
          sym (ap (λ (t : MoverTrace). trace_in t Writing) (moves_longer (take heard.by past) (drop heard.by past) k1 v.chunks (take p told) within))
          ∙ ap (λ h. mover_trace h k1 Writing v.chunks (take p told)) (take-append-drop heard.by past)

      final_there : slice_get trace_writes w.ended.m ≡ Some w.ended.final
      final_there =
          let away = none_anew v.chunks (take p told) (drop p told) (subst (AreBegun v.chunks) (sym (take-append-drop p told)) begun) chunk (suc e) k1 small (new_then p m) in
          ap (λ (b : List Moment). slice_get (mover_trace past k1 Writing v.chunks b).writes w.ended.m) (sym (take-append-drop p told))
          ∙ carried_writes_stay past k1 v.chunks (take p told) (drop p told) away w.ended.m w.ended.final (ap (λ (t : PortTrace). slice_get t.writes w.ended.m) (sym same_trace) ∙ w.ended.at)

      final_number : w.ended.final.write ≡ n
      final_number = w.ended.same ∙ asks_now

      -- whatever has this number was handed on before
      none_later : (j : ℕ) (b : Submission) → slice_get trace_writes j ≡ Some b → b.write ≡ n → j ≤ w.ended.m
      none_later j b there same =
          let x = write_at j b there in
          let q = x.moment in
          let counted = x.number in
          let earlier : q < p = elim (cases_lt q p) [
            | inl sooner ↦ sooner
            | inr not_sooner ↦ elim (cases_lt p q) [
              | inl later ↦ let adds = call_adds p q m x.in_move (Some heard) next at later in absurd (omega (arith, adds, same, counted))
              | inr not_later ↦
                  let here : q ≡ p = omega (arith, not_sooner, not_later) in
                  let clash = same_Some (Hands mover_port k1 x.place) (Carries chunk (Some heard) next) (sym x.at ∙ ap (slice_get told) here ∙ at) in absurd (cc)
            ]
          ] in
          let more = take_goes_on told p (suc q) earlier in
          let group : group_of_epoch (take (suc q) told) chunk (suc e) ≡ Some k1 = ap (λ (b : List Moment). group_of_epoch b chunk (suc e)) (take_one_more told q (Hands mover_port k1 x.place) x.at) ∙ group_stays (take q told) (Hands mover_port k1 x.place ∷ []) chunk (suc e) k1 (new_then q x.in_move) in
          let away = none_anew v.chunks (take (suc q) told) more.0 (subst (AreBegun v.chunks) more.1 (begun_at p)) chunk (suc e) k1 small group in
          let stands = ap (λ (b : List Moment). slice_get (mover_trace past k1 Writing v.chunks b).writes j) more.1 ∙ carried_writes_stay past k1 v.chunks (take (suc q) told) more.0 away j b x.stands in
          w.ended.no_later j b (ap (λ (t : PortTrace). slice_get t.writes j) same_trace ∙ stands) (same ∙ sym asks_now)

      written_by : (now : History) (x : ℕ) (bytes : Sector) → IsPrefix (take heard.by past) now → given_to (Write copy.span copy.sectors) x ≡ Some bytes → WasWritten (groups.setup chunk (suc e)) (groups.moved chunk e) now x write
      written_by now x bytes starts gives =
          subst (λ (setup : Setup). WasWritten setup (groups.moved chunk e) now x write) (sym new_setup)
          (subst (λ (l : List Submission). WasWritten c1.group.setup l now x write) (sym moved_are) (record {
            m = w.ended.m;
            final = copied w.ended.final;
            at = map_get copied trace_writes w.ended.m w.ended.final final_there;
            same = ap place_of final_number ∙ count;
            is_last = λ j s there same.
                let t = got_mapped copied trace_writes j s there in
                none_later j t.0 t.1 (number_same t.0.write n (number_of j t.0 t.1) number_now (ap (λ (y : Submission). y.write) t.2 ∙ same ∙ sym count));
            slot = w.slot;
            took_slot = w.took_slot;
            term = w.term;
            in_term = λ t. w.in_term (record { server = t.server; leader = t.leader; runs = t.runs; serves = t.serves });
            n = w.acked.k;
            acked = acked_stays c1.group.setup (take heard.by past) now w.acked.k (record { term = w.term; slot = w.slot }) starts w.acked.at;
            bytes = bytes;
            gives = ap (λ o. given_to o x) w.op ∙ gives;
          }))

    pub acked_at : (write : ℕ) (copy : Copy) → write < answers turns → slice_get (pieces_written turns) write ≡ Some copy → IsAckedAt write copy
    acked_at write copy few there =
        let a = is_answer turns write few in
        let h = heard_at a.i a.turn Written a.at a.reply in
        let l = written_of chunk pieces (take a.i turns) (subst (AnsweredAt chunk pieces (take a.i turns)) a.reply (answered_then a.i a.turn a.at)) in
        let p = h.moment in
        let m = h.in_move in
        let now = m.now in
        let ts = (goes p m).turns in
        let wants : wanted chunk ts ≡ Some (asks.Write chunk l.copy.span l.copy.sectors) = ap (wanted chunk) h.turns_are ∙ l.wants in
        let number = number_at p m chunk l.copy wants in
        let begins = begins_at p m in
        let front : take (length ts) turns ≡ take a.i turns = ap (take (length ts)) begins.1 ∙ take-append_seam ts begins.0 ∙ h.turns_are in
        let long = ap (λ l. length (pieces_written l)) front in
        let its = its_place (length ts) number.0 in
        let is_at = place_is (length ts) number.0 in
        let counted = a.count in
        let all = l.count in
        let place : place_of (length ts) ≡ write = omega (arith, long, its, is_at, counted, all) in
        let same_copy : l.copy ≡ copy = same_Some l.copy copy (ap (λ c. Some c) (sym number.1) ∙ sym (copy_at (length ts) number.0) ∙ ap (slice_get (pieces_written turns)) place ∙ there) in
        let ask : h.back.ask ≡ asks.Write chunk l.copy.span l.copy.sectors = same_Some h.back.ask (asks.Write chunk l.copy.span l.copy.sectors) (sym h.back.pending ∙ (goes p m).asked ∙ wants) in
        let of : group_asked (take p told) chunk Written ≡ Some k1 = ap (λ i. group_of_epoch (take p told) chunk (suc i)) now ∙ new_then p m in
        let is_number : h.back.number ≡ k1 = same_Some h.back.number k1 (sym h.back.of ∙ ap (group_asked (take p told) chunk) h.is ∙ of) in
        let group : h.back.group ≡ c1 = same_Some h.back.group c1 (sym h.back.there ∙ ap (slice_get chunks) is_number ∙ new_there) in
        let legal : IsLegal h.back.group.group.setup h.back.group.group.history = subst (λ (x : ChunkRun). IsLegal x.group.setup x.group.history) (sym group) (run.legal k1 c1 new_there) in
        let w = back_is Writing k1 h.back.number c1 h.back.group p h.heard.by h.back.ask (asks.Write chunk l.copy.span l.copy.sectors) h.heard.reply Written is_number group ask h.is refl (h.back.replied legal) in
        let since = h.back.since in
        let by_low = h.back.within in
        let same_reach = ap (λ k. reached k (take p told)) is_number in
        let same_length = ap (λ (x : ChunkRun). length x.group.history) group in
        let x : Moment = Carries chunk (Some h.heard) h.next in
        let inside = some_within told p x h.at in
        let later = take_one_more told p x h.at in
        let reach = carried_reaches k1 (take p told) chunk h.heard h.next (ap (group_asked (take p told) chunk) h.is ∙ of) in
        let to = reaches k1 (take (suc p) told) p x (get_take told (suc p) p (omega arith) ∙ h.at) in
        let same_front = ap (λ (b : List Moment). reach_at k1 b x) (take_fewer told (suc p) p (omega arith)) in
        record {
          moment = p;
          in_move = m;
          by = h.heard.by;
          low = omega (arith, reach, to, same_front);
          before = omega (arith, inside);
          written_so = λ history x bytes starts gives.
              written_by p a.i write l.copy h.heard h.next h.at m wants place (omega (arith, since, same_reach)) (omega (arith, by_low, same_length)) w history x bytes starts (ap (λ (c : Copy). given_to (Write c.span c.sectors) x) same_copy ∙ gives);
        }

    -- A move that has ended

    module _ (switched : is_switched turns ≡ true) where
      after : IsAfter chunk pieces turns all_calls.0
      after = let calls = all_calls in is_after chunk pieces turns calls.0 calls.1

      all_given : length (pieces_given turns) ≡ pieces
      all_given =
          let end = after.switch switched in
          let done = end.0 in
          let none = ap extra end.1 in
          let gave = after.gave in omega (arith, done, none, gave)

      all_answered : length (pieces_written turns) ≡ answers turns
      all_answered =
          let none = ap extra (after.switch switched).1 in
          let wrote = after.wrote in omega (arith, none, wrote)

      abbrev last_in : (n : ℕ) (o : Option (List (List ℕ))) → slice_get (pieces_given turns) n ≡ o → Answered
      last_in n None at = no_answer
      last_in n (Some sectors) at = (read_at n sectors at).read

      -- the last read of a piece
      abbrev pub last : ℕ → Answered
      last n = last_in n (slice_get (pieces_given turns) n) refl

      pub record WasLast (n : ℕ) : Type 0 where
        pub sectors : List (List ℕ)
        pub at : slice_get (pieces_given turns) n ≡ Some sectors
        pub read : WasReadAt n sectors
        pub is : read.read ≡ last n

      pub was_last : (n : ℕ) → n < pieces → WasLast n
      was_last n low = let x = found (slice_get (pieces_given turns) n) refl in record { sectors = x.0; at = x.1; read = x.2; is = x.3 }
        where
          found : (o : Option (List (List ℕ))) (at : slice_get (pieces_given turns) n ≡ o) → (sectors : List (List ℕ)) × (there : slice_get (pieces_given turns) n ≡ Some sectors) × (r : WasReadAt n sectors) × (r.read ≡ last_in n o at)
          found None at = let all = all_given in let some = something_there (pieces_given turns) n (omega (arith, all, low)) in absurd (none-some some.0 (sym at ∙ some.1))
          found (Some sectors) at = (sectors, at, read_at n sectors at, refl)

      reached_low : (p : ℕ) → reached k1 (take p told) ≤ reached k1 told
      reached_low p =
          let more = reached_more k1 (take p told) (drop p told) in
          let all = ap (reached k1) (take-append-drop p told) in omega (arith, more, all)

      pub carried : 0 < pieces → IsCarriedOut groups chunk e pieces last turns
      carried some = record {
        some = some;
        mover = all_calls.0;
        calls = all_calls.1;
        switched = switched;
        read = λ n low.
            let x = was_last n low in
            (x.read.k, x.read.answered ∙ ap (λ r. Some r) x.is, ap (λ (r : Answered). r.range) (sym x.is) ∙ x.read.of_range);
        gave = λ n sectors at.
            let within = some_within (pieces_given turns) n sectors at in
            let all = all_given in
            let x = was_last n (omega (arith, within, all)) in
            same_Some sectors x.sectors (sym at ∙ x.at) ∙ sym x.read.gives ∙ ap (λ (r : Answered). r.bytes) x.is;
        handed = handed;
        acked = λ write x copy bytes low there gives.
            let a = acked_at write copy low there in
            let by = a.low in
            let most = reached_low (suc a.moment) in
            let far = new_far in
            a.written_so (groups.history chunk (suc e)) x bytes (subst (IsPrefix (take a.by c1.group.history)) (sym new_history) (taken_before a.by (upto k1) c1.group.history (omega (arith, by, most, far)))) gives;
      }

      legal_old : IsLegal (groups.setup chunk e) (groups.history chunk e)
      legal_old =
          subst (λ (setup : Setup). IsLegal setup (groups.history chunk e)) (sym old_setup)
          (subst (IsLegal c0.group.setup) (sym old_history) (legal_before c0.group.setup (take (upto k0) c0.group.history) c0.group.history (prefix_taken (upto k0) c0.group.history) (run.legal k0 c0 old_there)))

      -- all that was written of a piece was acknowledged before whatever comes after the move
      pub all_acked : (q bound first : ℕ) → suc e ≤ epoch_of (take q told) chunk → reached k1 (take q told) ≤ bound → WereWritten groups chunk first (suc e) bound
      all_acked q bound first later low j nth a its at few gives =
          let h = handed j a at in
          let within = some_within (pieces_written turns) a.write h.0 h.1 in
          let answered = all_answered in
          let x = acked_at a.write h.0 (omega (arith, within, answered)) h.1 in
          let p = x.moment in
          let now = x.in_move.now in
          let earlier : suc p ≤ q = elim (cases_lt p q) [
            | inl sooner ↦ sooner
            | inr not_sooner ↦
                let further = take_goes_on told p q not_sooner in
                let rises = epoch_rises (take q told) further.0 chunk in
                let same = ap (λ (b : List Moment). epoch_of b chunk) further.1 in absurd (omega (arith, rises, same, now, later))
          ] in
          let further = take_goes_on told q (suc p) earlier in
          let up = reached_more k1 (take (suc p) told) further.0 in
          let same = ap (reached k1) further.1 in
          let by = x.low in
          let most = reached_low (suc p) in
          let far = new_far in
          let starts : IsPrefix (take x.by c1.group.history) (take bound (groups.history chunk (suc e))) =
          subst (λ hs. IsPrefix (take x.by c1.group.history) (take bound hs)) (sym new_history)
          (subst (λ hs. IsPrefix hs (take bound (take (upto k1) c1.group.history))) (take_fewer c1.group.history (upto k1) x.by (omega (arith, by, most, far)))
          (taken_before x.by bound (take (upto k1) c1.group.history) (omega (arith, by, up, same, low)))) in
          x.written_so (take bound (groups.history chunk (suc e))) (first + nth) its starts (ap (λ o. given_to o (first + nth)) (sym h.2) ∙ gives)

      -- The piece was moved

      module _ (ds : List Deed) (prior : (q bound first : ℕ) → e ≤ epoch_of (take q told) chunk → reached k0 (take q told) ≤ bound → WereWritten groups chunk first e bound) (hears : AreHeardBefore v told ds chunk e k0) (waits : AreHandedAfter told ds chunk e k1) where
        -- each ask was handed on behind what was told
        behind_at : (q m k place : ℕ) → slice_get told q ≡ Some (Hands m k place) → reached k (take q told) ≤ place
        behind_at q m k place at = run.behind (take q told) (drop (suc q) told ++ rest) m k place (whole_at q (Hands m k place) at)

        pub moved : (n : ℕ) → n < pieces → ChunkIsMoved groups ds chunk (8 * n) e (last n)
        moved n low =
            let x = was_last n low in
            let r = x.read in
            let were = were_carried groups chunk e pieces n last turns (carried (omega (arith, low))) legal_old low in
            let range : (last n).range ≡ piece n = ap (λ (a : Answered). a.range) (sym x.is) ∙ r.of_range in
            let now = r.in_move.now in record {
              k = r.k;
              answered = r.answered ∙ ap (λ a. Some a) x.is;
              from = ap (λ (s : Span). s.first) range;
              eight = ap (λ (s : Span). s.count) range;
              place = r.place;
              server = r.server;
              taken = r.taken ∙ ap (λ s. Some (record { event = Fetch r.server s; answer = ReadIs r.read.number })) (sym range) ∙ ap (λ (a : Answered). Some (record { event = Fetch r.server (last n).range; answer = ReadIs a.number })) x.is;
              after_move = prior r.moment r.place (8 * n) (omega (arith, now)) (behind_at r.moment mover_port k0 r.place r.at);
              after_answers = hears r.moment r.place r.at r.in_move.moving now;
              rule = rule;
              same = were.same;
              all = were.all;
              clients_wait = λ moment client by at. let w = waits moment client by at in all_acked w.0 by (8 * n) w.1 w.2;
            }
