-- A read of a sector whose writes are asked in turn gives the last of them.
use Rattle.std.proofs.Common.{◌≡◌, ℕ, zero, suc, ◌+◌, ◌-◌, ◌*◌, ◌<◌, ◌≤◌, ◌&&◌, ◌==◌, inl, inr, Bool, true, false, if◌then◌else◌, replicate, List, [], ◌∷◌, ◌++◌, length, take, Option, Some, None, slice_get, unwrap_or, arith, refl, sym, ap, subst, ◌∙◌}
use Rattle.std.specs.List.{fold}
use Rattle.std.proofs.lemmas.Bool.Decides.{nat_tests}
use Rattle.std.proofs.lemmas.Bool.{cases_eq, cases_lt, cond-true, eq-eqb, ne_eqb}
use Rattle.std.proofs.lemmas.List.{length-append}
use Rattle.std.proofs.lemmas.Option.{same_Some, none-some, slice_get_within}
use Rattle.pf_base.specs.Span.{Span, is_in}
use Rattle.pf_entry.specs.Ops.{Sector, zero_sector, writes}
use Rattle.pf_entry.specs.declared.ops.Op.{Op}
use Rattle.pf_entry.specs.declared.ops.Op.TheVariants.{Write, Noop, Mark}
use Rattle.pf_protocol.specs.Groups.{Answered}
use Rattle.pf_protocol.specs.LastWriters.{bytes_for}
use Rattle.pf_protocol.specs.Histories.{replay}
use Rattle.pf_protocol.proofs.ForPorts.{comes_op, one_chosen_op}
use Rattle.pf_law_registers.specs.Registers.{left_by_writes}
use Rattle.pf_law_registers.specs.Orders.{Member, given, values_of}
use Rattle.pf_law_registers.specs.Sectors.{ReadGives}
use Rattle.pf_law_registers.proofs.Lists.{left_at, something_there, taken_get}
use Rattle.pf_law_registers.proofs.AnswersKept.{answered_stays}
use Rattle.pf_law_positions.specs.Deeds.{PortAsk, PortReply, Puts, Gets, Got, Deed, Takes, Submits, Acks, Reads, Brings, Hands, Groups, DeedIsPending, WasGot, DeedsFit}
use Rattle.pf_law_positions.proofs.Answers.{eight_given, prefix_taken}
use Rattle.pf_law_positions.proofs.PositionAnswers.{same_ask}
use Rattle.pf_law_positions.proofs.TakenReads.{answered_taken_up}
use Rattle.pf_law_epochs.specs.InTurn.{AsksBytes, IsTurnAnsweredBy, AreInTurn, asked_over, last_asked, AreWhole, eight_from, eight_in, put_over, last_put, AreEightInTurn}
use Rattle.pf_law_epochs.specs.Orders.{members_before, order_of_sector}
use Rattle.pf_law_epochs.specs.Routed.{IsRouted}
use Rattle.pf_law_epochs.specs.Sectors.{RoutedRead, GivesRouted, IsCopyOf, SectorIsWritten, IsWrittenBefore, RoutedSector}
use Rattle.pf_law_epochs.proofs.Lists.{taken_there}
use Rattle.pf_law_epochs.proofs.Sectors.{routed_sector}

-- What asks leave

module _ (chunk x : ℕ) where
  over_other : (old : Sector) (client : ℕ) (reply : Option PortReply) (to : ℕ) (op : Op) → (to ≡ chunk → ⊥) → asked_over chunk x old (Takes client reply (Some (Puts to op))) ≡ old
  over_other old client reply to op other = ap (λ (b : Bool). if b then unwrap_or (given op x) old else old) (ne_eqb to chunk other)

  over_this : (old : Sector) (client : ℕ) (reply : Option PortReply) (to : ℕ) (op : Op) → to ≡ chunk → asked_over chunk x old (Takes client reply (Some (Puts to op))) ≡ unwrap_or (given op x) old
  over_this old client reply to op same = ap (λ (b : Bool). if b then unwrap_or (given op x) old else old) (eq-eqb to chunk same)

  -- a deed that asks no write of the sector leaves it
  abbrev NoAsk : Deed → Type 0
  NoAsk deed = (client : ℕ) (reply : Option PortReply) (op : Op) (bytes : Sector) → deed ≡ Takes client reply (Some (Puts chunk op)) → given op x ≡ Some bytes → ⊥

  nothing_given : (old : Sector) (client to : ℕ) (reply : Option PortReply) (op : Op) → to ≡ chunk → NoAsk (Takes client reply (Some (Puts to op))) → (o : Option Sector) → given op x ≡ o → unwrap_or (given op x) old ≡ old
  nothing_given old client to reply op same none None is = ap (λ o. unwrap_or o old) is
  nothing_given old client to reply op same none (Some bytes) is = absurd (none client reply op bytes (ap (λ to. Takes client reply (Some (Puts to op))) same) is)

  passed : (old : Sector) (deed : Deed) → NoAsk deed → asked_over chunk x old deed ≡ old
  passed old (Submits client to epoch place) none = refl
  passed old (Takes client reply None) none = refl
  passed old (Takes client reply (Some (Gets to range))) none = refl
  passed old (Takes client reply (Some (Puts to op))) none = elim (cases_eq to chunk) [
    | inr other ↦ over_other old client reply to op other
    | inl same ↦ over_this old client reply to op same ∙ nothing_given old client to reply op same none (given op x) refl
  ]

  all_passed : (deeds : List Deed) (old : Sector) → ((client asked : ℕ) (bytes : Sector) → AsksBytes deeds chunk x client asked bytes → ⊥) → fold (asked_over chunk x) old deeds ≡ old
  all_passed [] old none = refl
  all_passed (deed ∷ deeds) old none =
      ap (λ old. fold (asked_over chunk x) old deeds) (passed old deed (λ client reply op bytes is gives. none client 0 bytes (record { reply = reply; op = op; at = ap Some is; gives = gives })))
      ∙ all_passed deeds old (λ client asked bytes a. none client (suc asked) bytes (record { reply = a.reply; op = a.op; at = a.at; gives = a.gives }))

  last_stays : (deeds : List Deed) (old : Sector) (client asked : ℕ) (bytes : Sector) → AsksBytes deeds chunk x client asked bytes → ((other later : ℕ) (its : Sector) → asked < later → AsksBytes deeds chunk x other later its → ⊥) → fold (asked_over chunk x) old deeds ≡ bytes
  last_stays [] old client asked bytes a none = absurd (none-some _ a.at)
  last_stays (deed ∷ deeds) old client zero bytes a none =
      let is : deed ≡ Takes client a.reply (Some (Puts chunk a.op)) = same_Some _ _ a.at in
      ap (λ old. fold (asked_over chunk x) old deeds) (ap (asked_over chunk x old) is ∙ over_this old client a.reply chunk a.op refl ∙ ap (λ o. unwrap_or o old) a.gives)
      ∙ all_passed deeds bytes (λ other later its b. none other (suc later) its (omega arith) (record { reply = b.reply; op = b.op; at = b.at; gives = b.gives }))
  last_stays (deed ∷ deeds) old client (suc asked) bytes a none =
      last_stays deeds (asked_over chunk x old deed) client asked bytes (record { reply = a.reply; op = a.op; at = a.at; gives = a.gives })
      (λ other later its lt b. none other (suc later) its (omega (arith, lt)) (record { reply = b.reply; op = b.op; at = b.at; gives = b.gives }))

  -- the asks among the first deeds
  pub record Among (deeds : List Deed) (n client asked : ℕ) (bytes : Sector) : Type 0 where
    pub low : asked < n
    pub asks : AsksBytes deeds chunk x client asked bytes

  among : (deeds : List Deed) (n client asked : ℕ) (bytes : Sector) → AsksBytes (take n deeds) chunk x client asked bytes → Among deeds n client asked bytes
  among deeds n client asked bytes a =
      let p = taken_get n deeds asked _ a.at in
      record { low = p.0; asks = record { reply = a.reply; op = a.op; at = p.1; gives = a.gives } }

  -- where no write was asked among the first deeds, zeros; else the last one that was
  pub nothing_asked : (deeds : List Deed) (n : ℕ) → ((client asked : ℕ) (bytes : Sector) → asked < n → AsksBytes deeds chunk x client asked bytes → ⊥) → last_asked chunk x (take n deeds) ≡ zero_sector
  nothing_asked deeds n none = all_passed (take n deeds) zero_sector (λ client asked bytes a. let b = among deeds n client asked bytes a in none client asked bytes b.low b.asks)

  pub is_last_asked : (deeds : List Deed) (n client asked : ℕ) (bytes : Sector) → asked < n → AsksBytes deeds chunk x client asked bytes → ((other later : ℕ) (its : Sector) → asked < later → later < n → AsksBytes deeds chunk x other later its → ⊥) → last_asked chunk x (take n deeds) ≡ bytes
  is_last_asked deeds n client asked bytes lt a none =
      last_stays (take n deeds) zero_sector client asked bytes (record { reply = a.reply; op = a.op; at = taken_there deeds n asked lt ∙ a.at; gives = a.gives })
      (λ other later its less b. let c = among deeds n other later its b in none other later its less c.low c.asks)

-- Places of the order

length_of_order : (parts : ℕ → List Member) (e : ℕ) → length (order_of_sector parts e) ≡ members_before parts e + length (parts e)
length_of_order parts zero = omega arith
length_of_order parts (suc e) = omega (arith, length-append (order_of_sector parts e) (parts (suc e)), length_of_order parts e)

in_first : {X : Type 0} → (xs ys : List X) (k : ℕ) (x : X) → slice_get xs k ≡ Some x → slice_get (xs ++ ys) k ≡ Some x
in_first [] ys k x at = absurd (none-some _ at)
in_first (y ∷ xs) ys zero x at = at
in_first (y ∷ xs) ys (suc k) x at = in_first xs ys k x at

in_second : {X : Type 0} → (xs ys : List X) (k : ℕ) → slice_get (xs ++ ys) (length xs + k) ≡ slice_get ys k
in_second [] ys k = let same : 0 + k ≡ k = omega arith in ap (slice_get ys) same
in_second (x ∷ xs) ys k = let e : suc (length xs) + k ≡ suc (length xs + k) = omega arith in ap (slice_get (x ∷ (xs ++ ys))) e ∙ in_second xs ys k

at_in_order : (parts : ℕ → List Member) (n e nth : ℕ) (m : Member) → e ≤ n → slice_get (parts e) nth ≡ Some m → slice_get (order_of_sector parts n) (members_before parts e + nth) ≡ Some m
at_in_order parts zero e nth m le at =
    let none : e ≡ 0 = omega (arith, le) in
    let first = ap (members_before parts) none in
    let same : members_before parts e + nth ≡ nth = omega (arith, first) in
    ap (slice_get (parts 0)) same ∙ subst (λ e. slice_get (parts e) nth ≡ Some m) none at
at_in_order parts (suc n) e nth m le at = elim (cases_lt e (suc n)) [
  | inl before ↦ in_first (order_of_sector parts n) (parts (suc n)) (members_before parts e + nth) m (at_in_order parts n e nth m (omega (arith, before)) at)
  | inr not_before ↦
      let one : e ≡ suc n = omega (arith, le, not_before) in
      let first = ap (members_before parts) one in
      let same : members_before parts e + nth ≡ length (order_of_sector parts n) + nth = omega (arith, first, length_of_order parts n) in
      ap (slice_get (order_of_sector parts (suc n))) same
      ∙ in_second (order_of_sector parts n) (parts (suc n)) nth
      ∙ subst (λ e. slice_get (parts e) nth ≡ Some m) one at
]

-- A client has one ask pending at a moment
one_pending : (deeds : List Deed) (client a b moment : ℕ) (ask other : PortAsk) → DeedIsPending deeds client a moment ask → DeedIsPending deeds client b moment other → a ≡ b
one_pending deeds client a b moment ask other p q = elim (cases_lt a b) [
  | inl before ↦ absurd (p.no_other b q.reply (Some other) before q.earlier q.at)
  | inr not_before ↦ elim (cases_lt b a) [
    | inl after ↦ absurd (q.no_other a p.reply (Some ask) after p.earlier p.at)
    | inr not_after ↦ omega (arith, not_before, not_after)
  ]
]

module _ (groups : Groups) (deeds : List Deed) (chunk x : ℕ) (last : ℕ → Answered) (fits : DeedsFit groups deeds chunk) (sector : RoutedSector groups deeds chunk x last) where
  abbrev values : List Sector
  values = values_of (order_of_sector sector.parts (groups.moves chunk))

  -- an ask that was answered is a write that was
  record Answer (client asked moment : ℕ) : Type 0 where
    answered : ℕ
    by_then : answered ≤ moment
    written : SectorIsWritten groups deeds chunk x client asked answered

  answer : (client asked moment : ℕ) (bytes : Sector) → AsksBytes deeds chunk x client asked bytes → IsTurnAnsweredBy deeds client asked moment → Answer client asked moment
  answer client asked moment bytes a by =
      let one : by.ask ≡ Puts chunk a.op = same_ask deeds asked client by.pending.reply a.reply by.ask (Puts chunk a.op) by.pending.at a.at in
      let pending = subst (λ ask. DeedIsPending deeds client asked by.turn ask) one by.pending in
      let w = fits.waits client asked by.turn a.op by.reply by.next pending by.at in
      let at = by.at ∙ ap (λ reply. Some (Takes client reply by.next)) w.2 in
      let put = fits.put client by.turn w.0 w.1 a.op by.next at in
      record {
        answered = by.turn;
        by_then = by.by_then;
        written = record {
          epoch = w.0;
          by = w.1;
          op = a.op;
          next = by.next;
          at = at;
          put = put;
          is_write = one_pending deeds client put.asked asked by.turn (Puts chunk a.op) (Puts chunk a.op) put.pending pending;
          bytes = bytes;
          gives = a.gives;
        };
      }

  epoch_of_written : (client asked answered : ℕ) (w : SectorIsWritten groups deeds chunk x client asked answered) → w.epoch ≤ groups.moves chunk
  epoch_of_written client asked answered w = fits.reached answered w.epoch _ w.at (Brings w.by _ (Acks client w.op w.next))

  -- what a copy gives is what its submission does
  copy_gives : (place epoch client write : ℕ) → epoch ≤ groups.moves chunk → (copy : IsCopyOf groups chunk sector.parts place epoch client write) → given copy.submission.op x ≡ Some copy.member.bytes
  copy_gives place epoch client write le copy =
      let w = ((sector.are_parts epoch le).each copy.is_at.nth copy.member copy.is_at.at).is_write in
      let comes : copy.comes.op ≡ copy.submission.op = comes_op (groups.setup chunk epoch) (groups.history chunk epoch) copy.member.slot copy.submission copy.comes in
      let same : w.op ≡ copy.comes.op = one_chosen_op (groups.setup chunk epoch) (groups.history chunk epoch) copy.member.slot w.term copy.comes.term w.op copy.comes.op w.chosen copy.comes.chosen in
      ap (λ o. given o x) (sym comes) ∙ ap (λ o. given o x) (sym same) ∙ w.gives

  -- a copy that was handed on before an answer was asked before it
  record Asked (place epoch client write answered : ℕ) (copy : IsCopyOf groups chunk sector.parts place epoch client write) : Type 0 where
    low : write < answered
    asks : AsksBytes deeds chunk x client write copy.member.bytes

  asked_at : (place epoch client write moment answered : ℕ) → (copy : IsCopyOf groups chunk sector.parts place epoch client write) → slice_get deeds moment ≡ Some (Submits client chunk epoch (length copy.submission.before)) → moment < answered → Asked place epoch client write answered copy
  asked_at place epoch client write moment answered copy at before =
      let le = fits.reached moment epoch _ at (Hands client (length copy.submission.before)) in
      let h = (fits.port epoch client le).handed copy.k copy.submission copy.there in
      record {
        low = elim (cases_lt write answered) [
          | inl low ↦ low
          | inr not_low ↦
              let less = fits.places moment h.moment epoch client client (length copy.submission.before) (length copy.submission.before) (omega (arith, before, not_low, copy.is_write, h.pending.earlier)) at h.at in
              absurd (omega (arith, less))
        ];
        asks = record { reply = h.pending.reply; op = copy.submission.op; at = ap (slice_get deeds) (sym copy.is_write) ∙ h.pending.at; gives = copy_gives place epoch client write le copy };
      }

  module _ (r : RoutedRead groups deeds chunk x) (turns : AreInTurn deeds chunk x r.got.asked r.answered) where
    before_answer : r.got.asked < r.answered
    before_answer = r.got.pending.earlier

    -- a write that was asked before the read is shown
    is_shown : (client write : ℕ) (bytes : Sector) → write < r.answered → AsksBytes deeds chunk x client write bytes → (place : ℕ) × (epoch : ℕ) × (epoch ≤ groups.moves chunk) × (place < sector.shown r) × IsCopyOf groups chunk sector.parts place epoch client write
    is_shown client write bytes lt a =
        let z = answer client write r.got.asked bytes a (turns.before client write bytes lt a) in
        let w = z.written in
        let le = epoch_of_written client write z.answered w in
        let found = sector.has_place client write z.answered w in
        let before : IsWrittenBefore groups deeds chunk x sector.parts found.0 r = record { client = client; write = write; answered = z.answered; written = w; before = z.by_then; epoch = w.epoch; reached = le; copy = found.1 } in
        (found.0, w.epoch, le, sector.is_register.acked r found.0 before, found.1)

    from : (n : ℕ) → n ≡ sector.shown r → left_by_writes zero_sector values n ≡ last_asked chunk x (take r.got.asked deeds)
    from zero none = sym (nothing_asked chunk x deeds r.got.asked (λ client write bytes lt a. let s = is_shown client write bytes (omega (arith, lt, before_answer)) a in absurd (omega (arith, none, s.3))))
    from (suc k) some =
        let h = sector.is_register.asked r k (omega (arith, some)) in
        let le = fits.reached h.moment h.epoch _ h.at (Hands h.client (length h.copy.submission.before)) in
        let its = asked_at k h.epoch h.client h.write h.moment r.answered h.copy h.at h.before in
        let by = turns.before h.client h.write h.copy.member.bytes its.low its.asks in
        let there = at_in_order sector.parts (groups.moves chunk) h.epoch h.copy.is_at.nth h.copy.member le h.copy.is_at.at in
        left_at (λ (m : Member). m.bytes) (order_of_sector sector.parts (groups.moves chunk)) k h.copy.member zero_sector (ap (slice_get (order_of_sector sector.parts (groups.moves chunk))) h.copy.is_at.is_place ∙ there)
        ∙ sym (is_last_asked chunk x deeds r.got.asked h.client h.write h.copy.member.bytes (omega (arith, by.by_then, by.pending.earlier)) its.asks
        (λ other later bytes less low a.
        let now : later < r.answered = omega (arith, low, before_answer) in
        let z = answer h.client h.write later h.copy.member.bytes its.asks (turns.apart h.client h.write other later h.copy.member.bytes bytes less now its.asks a) in
        let s = is_shown other later bytes now a in
        let above = sector.between h.client h.write z.answered other later h.epoch s.1 k s.0 z.written z.by_then le s.2 h.copy s.4 in
        absurd (omega (arith, above, s.3, some))))

    pub gives_last : (bytes : Sector) → GivesRouted groups deeds chunk x r bytes → bytes ≡ last_asked chunk x (take r.got.asked deeds)
    gives_last bytes g = sector.is_register.gives r bytes g ∙ from (sector.shown r) refl

-- Eight sectors

tests : (first : ℕ) (span : Span) (sectors : List Sector) → (is : Bool) → ((span.first == first) && (span.count == 8) && (length sectors == 8)) ≡ is → (its : List Sector) → (if is then Some sectors else None) ≡ Some its → (span.first ≡ first) × (span.count ≡ 8) × (length its ≡ 8) × (sectors ≡ its)
tests first span sectors false test its same = absurd (none-some _ same)
tests first span sectors true test its same =
    let one : sectors ≡ its = same_Some _ _ same in
    let size = ap length one in
    (grind (arith, nat_tests, test), grind (arith, nat_tests, test), grind (arith, nat_tests, test, size), one)

-- a write of exactly these eight gives each its own
pub eight_give : (first nth : ℕ) (op : Op) (its : List Sector) → nth < 8 → eight_in first op ≡ Some its → given op (first + nth) ≡ slice_get its nth
unfolding given bytes_for writes
eight_give first nth (Write span sectors) its low is =
    let t = tests first span sectors ((span.first == first) && (span.count == 8) && (length sectors == 8)) refl its is in
    let inside : is_in span (first + nth) ≡ true = grind (arith, nat_tests, t.0, t.1, low) in
    let place : (first + nth) - span.first ≡ nth = omega (arith, t.0) in
    cond-true _ _ _ inside ∙ ap (slice_get sectors) place ∙ ap (λ s. slice_get s nth) t.3
eight_give first nth Noop its low is = absurd (none-some _ is)
eight_give first nth Mark its low is = absurd (none-some _ is)

pub eight_length : (first : ℕ) (op : Op) (its : List Sector) → eight_in first op ≡ Some its → length its ≡ 8
eight_length first (Write span sectors) its is = (tests first span sectors ((span.first == first) && (span.count == 8) && (length sectors == 8)) refl its is).2
eight_length first Noop its is = absurd (none-some _ is)
eight_length first Mark its is = absurd (none-some _ is)

module _ (chunk first : ℕ) where
  -- one deed, over eight sectors and over one of them
  put_gives : (old : List Sector) (nth : ℕ) (z : Sector) (deed : Deed) → nth < 8 → ((client : ℕ) (reply : Option PortReply) (op : Op) (bytes : Sector) → deed ≡ Takes client reply (Some (Puts chunk op)) → given op (first + nth) ≡ Some bytes → (sectors : List Sector) × (eight_in first op ≡ Some sectors)) → slice_get old nth ≡ Some z → slice_get (put_over chunk first old deed) nth ≡ Some (asked_over chunk (first + nth) z deed)
  put_gives old nth z (Submits client to epoch place) low whole at = at
  put_gives old nth z (Takes client reply None) low whole at = at
  put_gives old nth z (Takes client reply (Some (Gets to range))) low whole at = at
  put_gives old nth z (Takes client reply (Some (Puts to op))) low whole at = elim (cases_eq to chunk) [
    | inr other ↦
        ap (λ (b : Bool). slice_get (if b then unwrap_or (eight_in first op) old else old) nth) (ne_eqb to chunk other)
        ∙ at ∙ ap Some (sym (over_other chunk (first + nth) z client reply to op other))
    | inl same ↦
        ap (λ (b : Bool). slice_get (if b then unwrap_or (eight_in first op) old else old) nth) (eq-eqb to chunk same)
        ∙ by same (eight_in first op) refl (given op (first + nth)) refl
        ∙ ap Some (sym (over_this chunk (first + nth) z client reply to op same))
  ]
    where
      by : to ≡ chunk → (o : Option (List Sector)) → eight_in first op ≡ o → (g : Option Sector) → given op (first + nth) ≡ g → slice_get (unwrap_or (eight_in first op) old) nth ≡ Some (unwrap_or (given op (first + nth)) z)
      by same (Some its) is (Some bytes) gives =
          ap (λ o. slice_get (unwrap_or o old) nth) is
          ∙ sym (eight_give first nth op its low is) ∙ gives
          ∙ ap (λ g. Some (unwrap_or g z)) (sym gives)
      by same (Some its) is None gives =
          let some = something_there its nth (omega (arith, eight_length first op its is, low)) in
          absurd (none-some _ (sym gives ∙ eight_give first nth op its low is ∙ some.1))
      by same None is (Some bytes) gives =
          let w = whole client reply op bytes (ap (λ to. Takes client reply (Some (Puts to op))) same) gives in
          absurd (none-some _ (sym is ∙ w.1))
      by same None is None gives = ap (λ o. slice_get (unwrap_or o old) nth) is ∙ at ∙ ap (λ g. Some (unwrap_or g z)) (sym gives)

  all_give : (deeds : List Deed) (old : List Sector) (nth : ℕ) (z : Sector) → nth < 8 → AreWhole deeds chunk first → slice_get old nth ≡ Some z → slice_get (fold (put_over chunk first) old deeds) nth ≡ Some (fold (asked_over chunk (first + nth)) z deeds)
  all_give [] old nth z low whole at = at
  all_give (deed ∷ deeds) old nth z low whole at =
      all_give deeds (put_over chunk first old deed) nth (asked_over chunk (first + nth) z deed) low
      (λ client asked n bytes inside a. whole client (suc asked) n bytes inside (record { reply = a.reply; op = a.op; at = a.at; gives = a.gives }))
      (put_gives old nth z deed low (λ client reply op bytes is gives. whole client 0 nth bytes low (record { reply = reply; op = op; at = ap Some is; gives = gives })) at)

  zeros_there : (n nth : ℕ) → nth < n → slice_get (replicate n zero_sector) nth ≡ Some zero_sector
  zeros_there zero nth lt = absurd (omega (arith, lt))
  zeros_there (suc n) zero lt = refl
  zeros_there (suc n) (suc nth) lt = zeros_there n nth (omega (arith, lt))

  few_whole : (deeds : List Deed) (n : ℕ) → AreWhole deeds chunk first → AreWhole (take n deeds) chunk first
  few_whole deeds n whole client asked nth bytes low a =
      let p = taken_get n deeds asked _ a.at in
      whole client asked nth bytes low (record { reply = a.reply; op = a.op; at = p.1; gives = a.gives })

  pub eight_left : (deeds : List Deed) (n nth : ℕ) → nth < 8 → AreWhole deeds chunk first → slice_get (last_put chunk first (take n deeds)) nth ≡ Some (last_asked chunk (first + nth) (take n deeds))
  eight_left deeds n nth low whole = all_give (take n deeds) (replicate 8 zero_sector) nth zero_sector low (few_whole deeds n whole) (zeros_there 8 nth low)

  put_length : (old : List Sector) (deed : Deed) → length old ≡ 8 → length (put_over chunk first old deed) ≡ 8
  put_length old (Submits client to epoch place) size = size
  put_length old (Takes client reply None) size = size
  put_length old (Takes client reply (Some (Gets to range))) size = size
  put_length old (Takes client reply (Some (Puts to op))) size = elim (cases_eq to chunk) [
    | inr other ↦ ap (λ (b : Bool). length (if b then unwrap_or (eight_in first op) old else old)) (ne_eqb to chunk other) ∙ size
    | inl same ↦ ap (λ (b : Bool). length (if b then unwrap_or (eight_in first op) old else old)) (eq-eqb to chunk same) ∙ by (eight_in first op) refl
  ]
    where
      by : (o : Option (List Sector)) → eight_in first op ≡ o → length (unwrap_or (eight_in first op) old) ≡ 8
      by None is = ap (λ o. length (unwrap_or o old)) is ∙ size
      by (Some its) is = ap (λ o. length (unwrap_or o old)) is ∙ eight_length first op its is

  all_length : (deeds : List Deed) (old : List Sector) → length old ≡ 8 → length (fold (put_over chunk first) old deeds) ≡ 8
  all_length [] old size = size
  all_length (deed ∷ deeds) old size = all_length deeds (put_over chunk first old deed) (put_length old deed size)

  pub left_length : (deeds : List Deed) → length (last_put chunk first deeds) ≡ 8
  left_length deeds = all_length deeds (replicate 8 zero_sector) refl

-- lists of one length with the same elements
same_lists : {X : Type 0} → (xs ys : List X) → length xs ≡ length ys → ((k : ℕ) (x : X) → slice_get xs k ≡ Some x → slice_get ys k ≡ Some x) → xs ≡ ys
same_lists [] [] size all = refl
same_lists [] (y ∷ ys) size all = absurd (omega (arith, size))
same_lists (x ∷ xs) [] size all = absurd (omega (arith, size))
same_lists (x ∷ xs) (y ∷ ys) size all =
    let head : y ≡ x = same_Some y x (all 0 x refl) in
    let tail = same_lists xs ys (omega (arith, size)) (λ k z at. all (suc k) z at) in
    ap (λ z. z ∷ xs) (sym head) ∙ ap (λ zs. y ∷ zs) tail

-- The laws

pub last_of_sector : (groups : Groups) (deeds : List Deed) (chunk piece nth : ℕ) → IsRouted groups deeds chunk piece → nth < 8 → (r : RoutedRead groups deeds chunk (8 * piece + nth)) → AreInTurn deeds chunk (8 * piece + nth) r.got.asked r.answered → (bytes : Sector) → GivesRouted groups deeds chunk (8 * piece + nth) r bytes → bytes ≡ last_asked chunk (8 * piece + nth) (take r.got.asked deeds)
last_of_sector groups deeds chunk piece nth routed low r turns bytes gives = gives_last groups deeds chunk (8 * piece + nth) routed.last routed.fits (routed_sector groups deeds chunk piece nth routed low) r turns bytes gives

module _ (groups : Groups) (deeds : List Deed) (chunk piece : ℕ) (routed : IsRouted groups deeds chunk piece) (client asked answered epoch by : ℕ) (read : Answered) (next : Option PortAsk) (at : slice_get deeds answered ≡ Some (Takes client (Some (Got chunk epoch by read)) next)) (pending : DeedIsPending deeds client asked answered (Gets chunk (eight_from (8 * piece)))) where
  got : WasGot groups deeds chunk epoch client answered by read
  got = routed.fits.got client answered epoch by read next at

  reached : epoch ≤ groups.moves chunk
  reached = routed.fits.reached answered epoch _ at (Brings by _ (Reads client read next))

  same_asked : got.asked ≡ asked
  same_asked = one_pending deeds client got.asked asked answered (Gets chunk got.range) (Gets chunk (eight_from (8 * piece))) got.pending pending

  there : slice_get (replay (groups.setup chunk epoch) (groups.history chunk epoch)).answered got.k ≡ Some read
  there = answered_stays (groups.setup chunk epoch) (take by (groups.history chunk epoch)) (groups.history chunk epoch) got.k read (prefix_taken by (groups.history chunk epoch)) got.answered

  same_range : read.range ≡ eight_from (8 * piece)
  same_range =
      let taken = answered_taken_up (groups.setup chunk epoch) (groups.history chunk epoch) got.place got.server got.k got.range read (routed.legal epoch reached) got.taken there in
      let one : Gets chunk got.range ≡ Gets chunk (eight_from (8 * piece)) = same_ask deeds asked client got.pending.reply pending.reply _ _ (ap (slice_get deeds) (sym same_asked) ∙ got.pending.at) pending.at in
      let range : got.range ≡ eight_from (8 * piece) = cc in
      taken.same_range ∙ range

  eight_bytes : length read.bytes ≡ 8
  eight_bytes =
      let first = ap (λ (s : Span). s.first) same_range in
      let count = ap (λ (s : Span). s.count) same_range in
      eight_given (groups.setup chunk epoch) (groups.history chunk epoch) got.k read (routed.legal epoch reached) there (omega (arith, first, count, routed.inside epoch reached)) ∙ count

  gives_sector : (nth : ℕ) (bytes : Sector) → slice_get read.bytes nth ≡ Some bytes → ReadGives (groups.setup chunk epoch) (groups.history chunk epoch) (8 * piece + nth) read bytes
  gives_sector nth bytes has = record { k = got.k; answered = there; nth = nth; is_sector = ap (λ (s : Span). s.first + nth) (sym same_range); has = has }

  pub last_of_eight : AreEightInTurn deeds chunk (8 * piece) asked answered → AreWhole deeds chunk (8 * piece) → read.bytes ≡ last_put chunk (8 * piece) (take asked deeds)
  last_of_eight turns whole =
      same_lists read.bytes (last_put chunk (8 * piece) (take asked deeds)) (eight_bytes ∙ sym (left_length chunk (8 * piece) (take asked deeds)))
      (λ nth bytes has.
      let low : nth < 8 = omega (arith, slice_get_within read.bytes nth bytes has, eight_bytes) in
      let r : RoutedRead groups deeds chunk (8 * piece + nth) = record { client = client; answered = answered; epoch = epoch; by = by; read = read; next = next; at = at; got = got; covers = (bytes, gives_sector nth bytes has) } in
      let is = last_of_sector groups deeds chunk piece nth routed low r (subst (λ n. AreInTurn deeds chunk (8 * piece + nth) n answered) (sym same_asked) (turns nth low)) bytes (gives_sector nth bytes has) in
      eight_left chunk (8 * piece) deeds asked nth low whole
      ∙ ap (λ n. Some (last_asked chunk (8 * piece + nth) (take n deeds))) (sym same_asked)
      ∙ ap Some (sym is))
