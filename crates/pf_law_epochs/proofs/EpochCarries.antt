-- What the mover carries into each epoch's group.
use Rattle.std.proofs.Common.{◌≡◌, ℕ, zero, suc, ◌+◌, ◌*◌, ◌<◌, ◌≤◌, ◌⊎◌, inl, inr, List, length, take, Some, slice_get, arith, refl, sym, ap, subst, ◌∙◌}
use Rattle.std.proofs.lemmas.Option.{same_Some, none-some}
use Rattle.pf_entry.specs.Ops.{Sector, zero_sector}
use Rattle.pf_protocol.specs.Servers.{Setup}
use Rattle.pf_protocol.specs.Groups.{Answered}
use Rattle.pf_protocol.specs.Histories.{History, IsPrefix}
use Rattle.pf_protocol.specs.Fresh.{IsFetch}
use Rattle.pf_protocol.specs.Ports.{Submission, submitting, WriteHasEnded, FollowsRule, ComesFrom}
use Rattle.pf_protocol.proofs.ForMoments.{begins_with, whole_prefix}
use Rattle.pf_protocol.proofs.ForPorts.{comes_op}
use Rattle.pf_law_registers.specs.Registers.{left_by_writes}
use Rattle.pf_law_registers.specs.Orders.{Member, given, values_of}
use Rattle.pf_law_registers.specs.Sectors.{ReadGives, SectorRegister, IsCopyAt}
use Rattle.pf_law_registers.specs.Firsts.{IsFirstAcked, ComeFirst}
use Rattle.pf_law_registers.specs.Moved.{IsWriteEndedBefore, IsMove}
use Rattle.pf_law_registers.proofs.Lists.{something_there, left_at}
use Rattle.pf_law_registers.proofs.SubmissionPlaces.{placed}
use Rattle.pf_law_registers.proofs.Sectors.{sector_register}
use Rattle.pf_law_registers.proofs.Firsts.{gives_it}
use Rattle.pf_law_positions.specs.Deeds.{Deed, Submits, Groups, WriteIsHanded}
use Rattle.pf_law_positions.specs.Moves.{mover_into, WasWritten, WereWritten, ChunkIsMoved}
use Rattle.pf_law_positions.proofs.Answers.{prefix_taken, taken_whole, eight_given}
use Rattle.pf_law_positions.proofs.ClientRules.{ruled}
use Rattle.pf_law_positions.proofs.TakenReads.{answered_taken_up, slot_acked}
use Rattle.pf_law_epochs.specs.Routed.{IsRouted}

-- a sector of a chunk, as one of a piece
pub record Place : Type 0 where
  pub groups : Groups
  pub deeds : List Deed
  pub chunk : ℕ
  pub piece : ℕ
  pub routed : IsRouted groups deeds chunk piece
  pub nth : ℕ
  pub nth_low : nth < 8

module _ (c : Place) where
  abbrev pub x : ℕ
  x = 8 * c.piece + c.nth

  abbrev pub moves : ℕ
  moves = c.groups.moves c.chunk

  abbrev pub setup : ℕ → Setup
  setup e = c.groups.setup c.chunk e

  abbrev pub history : ℕ → History
  history e = c.groups.history c.chunk e

  abbrev pub mover : ℕ → List Submission
  mover e = mover_into c.groups c.chunk e

  abbrev pub port : (epoch client : ℕ) → List Submission
  port e client = c.groups.writes c.chunk e client

  abbrev pub last : ℕ → Answered
  last e = c.routed.last e

  pub reg : (e : ℕ) → SectorRegister (setup e) (history e) x
  reg e = sector_register (setup e) (history e) x

  pub was_moved : (e : ℕ) → e < moves → ChunkIsMoved c.groups c.deeds c.chunk (8 * c.piece) e (last e)
  was_moved e lt = c.routed.moved e lt

  pub port_rule : (e client : ℕ) → e ≤ moves → FollowsRule (setup e) (history e) (port e client)
  port_rule e client le = ruled c.groups c.deeds c.chunk c.routed.fits e client le (c.routed.legal e le)

  pub handed : (e client k : ℕ) (a : Submission) → e ≤ moves → slice_get (port e client) k ≡ Some a → WriteIsHanded c.deeds c.chunk e client a
  handed e client k a le at = (c.routed.fits.port e client le).handed k a at

  pub mover_rule : (e : ℕ) → e ≤ moves → FollowsRule (setup e) (history e) (mover e)
  mover_rule zero le = record {
    happened = λ k a at. absurd (none-some a at);
    in_order = λ j k a b at there lt. absurd (none-some a at);
    ascends = λ j k a b at there lt. absurd (none-some a at);
    no_lower = λ j k a b at there lt. absurd (none-some a at);
    again = λ j k a b at there lt. absurd (none-some a at);
    waits = λ j k a b at there lt. absurd (none-some a at);
  }
  mover_rule (suc e) le = (was_moved e (omega (arith, le))).rule

  -- a read of the epoch's group that was taken up at this place
  pub record Reader (e place : ℕ) (answer : Answered) : Type 0 where
    pub bytes : Sector
    pub gives : ReadGives (setup e) (history e) x answer bytes
    pub took_up : IsFetch (setup e) (history e) answer.number answer.server answer.range (take place (history e))

  pub last_reader : (e : ℕ) → (lt : e < moves) → Reader e (was_moved e lt).place (last e)
  last_reader e lt =
      let m = was_moved e lt in
      let legal = c.routed.legal e (omega (arith, lt)) in
      let eight = eight_given (setup e) (history e) m.k (last e) legal m.answered (omega (arith, c.routed.inside e (omega (arith, lt)), m.from, m.eight)) in
      let some = something_there (last e).bytes c.nth (omega (arith, eight, m.eight, c.nth_low)) in
      record {
        bytes = some.0;
        gives = record { k = m.k; answered = m.answered; nth = c.nth; is_sector = ap (λ n. n + c.nth) (sym m.from); has = some.1 };
        took_up = (answered_taken_up (setup e) (history e) m.place m.server m.k (last e).range (last e) legal m.taken m.answered).took_up;
      }

  -- what the mover wrote has ended, and comes from it
  record Ended (e write : ℕ) (now : History) (w : WasWritten (setup e) (mover e) now x write) : Type 0 where
    ended : WriteHasEnded (setup e) (mover e) now write
    same : ended.final ≡ w.final
    comes : ComesFrom (setup e) (history e) ended.answered.acked.slot ended.final

  ended_at : (e write : ℕ) (now : History) → e ≤ moves → IsPrefix now (history e) → (w : WasWritten (setup e) (mover e) now x write) → Ended e write now w
  ended_at e write now le p w =
      let acked = slot_acked (setup e) (history e) now w.final w.slot w.term w.n (c.routed.legal e le) ((mover_rule e le).happened w.m w.final w.at) w.took_slot w.in_term w.acked in
      let placed_at = placed (setup e) (history e) now w.final w.slot (c.routed.legal e le) ((mover_rule e le).happened w.m w.final w.at) p w.took_slot acked.answered in
      record {
        ended = record { m = w.m; final = w.final; at = w.at; same = w.same; no_later = w.is_last; answered = acked.answered };
        same = refl;
        comes = subst (λ slot. ComesFrom (setup e) (history e) slot w.final) (placed_at.in_slot ∙ sym acked.in_slot) placed_at.comes;
      }

  -- a read that was taken up after the mover's writes
  abbrev pub Later : ℕ → Answered → Type 0
  Later e answer = (k : ℕ) (a : Submission) (its : Sector) → slice_get (mover e) k ≡ Some a → given a.op x ≡ Some its → IsWriteEndedBefore (setup e) (history e) (mover e) x a.write answer

  pub later_from : (e by : ℕ) (answer : Answered) → e ≤ moves → WereWritten c.groups c.chunk (8 * c.piece) e by → Reader e by answer → Later e answer
  later_from e by answer le were r k a its at is =
      let w = were k c.nth a its at c.nth_low is in
      let z = ended_at e a.write (take by (history e)) le (prefix_taken by (history e)) w in
      record {
        taken = record { bytes = r.bytes; gives = r.gives; before = take by (history e); fetched = r.took_up };
        ended = z.ended;
        its_bytes = w.bytes;
        writes_it = ap (λ (a : Submission). given a.op x) z.same ∙ w.gives;
        comes = z.comes;
      }

  -- clients wait for the mover
  pub waited : (e moment client place : ℕ) → e ≤ moves → slice_get c.deeds moment ≡ Some (Submits client c.chunk e place) → WereWritten c.groups c.chunk (8 * c.piece) e place
  waited zero moment client place le at = λ k nth a its there inside is. absurd (none-some a there)
  waited (suc e) moment client place le at = (was_moved e (omega (arith, le))).clients_wait moment client place at

  pub last_later : (e : ℕ) → e < moves → Later e (last e)
  last_later e lt = later_from e (was_moved e lt).place (last e) (omega (arith, lt)) (was_moved e lt).after_move (last_reader e lt)

  -- a client hands on a write of the sector after the mover's were acknowledged
  pub after_mover : (e client k i : ℕ) (s a : Submission) (its : Sector) → e ≤ moves → slice_get (port e client) k ≡ Some s → slice_get (mover e) i ≡ Some a → given a.op x ≡ Some its → WriteHasEnded (setup e) (mover e) s.before a.write
  after_mover e client k i s a its le there at is =
      let h = handed e client k s le there in
      let w = waited e h.moment client (length s.before) le h.at i c.nth a its at c.nth_low is in
      let z = ended_at e a.write (take (length s.before) (history e)) le (prefix_taken (length s.before) (history e)) w in
      let happened = (port_rule e client le).happened k s there in
      subst (λ now. WriteHasEnded (setup e) (mover e) now a.write) (taken_whole s.before (history e) (begins_with s.before (history e) (submitting s) happened)) z.ended

  pub is_first : (e : ℕ) → e ≤ moves → IsFirstAcked (setup e) (history e) (mover e) x
  is_first e le before server op answer bytes p took gives = elim (c.routed.of_ports e c.nth le c.nth_low before server op answer bytes p took gives) [
    | inl movers ↦ inl movers
    | inr (client, q) ↦ inr (λ k a its at is. subst (λ now. WriteHasEnded (setup e) (mover e) now a.write) q.at_moment (after_mover e client q.k k q.submission a its le q.there at is))
  ]

  -- what the mover found in the group before
  abbrev pub IsInitial : ℕ → Sector → Type 0
  IsInitial zero initial = initial ≡ zero_sector
  IsInitial (suc e) initial = ReadGives (setup e) (history e) x (last e) initial

  pub start : (e : ℕ) → e ≤ moves → (initial : Sector) × IsInitial e initial
  start zero le = (zero_sector, refl)
  start (suc e) le = let r = last_reader e (omega (arith, le)) in (r.bytes, r.gives)

  same_bytes : (e : ℕ) (initial : Sector) → e ≤ moves → IsInitial e initial → (k : ℕ) (a : Submission) (its : Sector) → slice_get (mover e) k ≡ Some a → given a.op x ≡ Some its → its ≡ initial
  same_bytes zero initial le is k a its at has = absurd (none-some a at)
  same_bytes (suc e) initial le is k a its at has =
      let m = was_moved e (omega (arith, le)) in
      let one : is.nth ≡ c.nth = omega (arith, is.is_sector, m.from) in
      same_Some its initial (sym (m.same k c.nth a its at c.nth_low has) ∙ ap (slice_get (last e).bytes) (sym one) ∙ is.has)

  -- a copy of a submission that gives the sector something has a place
  pub copy_at : (e slot : ℕ) (a : Submission) (bytes : Sector) → given a.op x ≡ Some bytes → ComesFrom (setup e) (history e) slot a → (place : ℕ) × (copy : IsCopyAt (setup e) (history e) (reg e).order place a) × (copy.member ≡ record { slot = slot; bytes = bytes })
  copy_at e slot a bytes gives comes =
      let m : Member = record { slot = slot; bytes = bytes } in
      let found = (reg e).is_order.all (record { slot = slot; bytes = bytes }) (record { term = comes.term; op = comes.op; chosen = comes.chosen; gives = ap (λ o. given o x) (comes_op (setup e) (history e) slot a comes) ∙ gives }) in
      (found.0, record { member = record { slot = slot; bytes = bytes }; there = found.1; comes = comes }, refl)

  made_some : (e : ℕ) (initial : Sector) → e ≤ moves → IsInitial e initial → (initial ≡ zero_sector) ⊎ ((place : ℕ) × (k : ℕ) × (a : Submission) × (slice_get (mover e) k ≡ Some a) × IsCopyAt (setup e) (history e) (reg e).order place a)
  made_some zero initial le is = inl is
  made_some (suc e) initial le is =
      let m = was_moved e (omega (arith, le)) in
      let one : is.nth ≡ c.nth = omega (arith, is.is_sector, m.from) in
      elim (m.all c.nth initial c.nth_low (ap (slice_get (last e).bytes) (sym one) ∙ is.has)) [
        | inl zeros ↦ inl zeros
        | inr (write, w) ↦
            let z = ended_at (suc e) write (history (suc e)) le (whole_prefix (history (suc e))) w in
            let p = copy_at (suc e) z.ended.answered.acked.slot z.ended.final w.bytes (ap (λ (a : Submission). given a.op x) z.same ∙ w.gives) z.comes in
            inr (p.0, z.ended.m, z.ended.final, z.ended.at, p.1)
      ]

  pub is_move : (e : ℕ) (initial : Sector) → e ≤ moves → IsInitial e initial → IsMove (setup e) (history e) x (reg e) (mover e) initial
  is_move e initial le is = record { rule = mover_rule e le; first = is_first e le; same = same_bytes e initial le is; made = made_some e initial le is }

  -- the mover's writes leave what it found
  pub made_bytes : (e : ℕ) (initial : Sector) → e ≤ moves → IsInitial e initial → (made : ℕ) → ComeFirst (setup e) (history e) (reg e).order (mover e) made → (n : ℕ) → n ≡ made → left_by_writes zero_sector (values_of (reg e).order) n ≡ initial
  made_bytes e initial le is made come zero none = elim (made_some e initial le is) [
    | inl zeros ↦ sym zeros
    | inr some ↦ absurd (come.none_later some.0 some.1 some.2 (omega (arith, none)) some.3 some.4)
  ]
  made_bytes e initial le is made come (suc n) same =
      let f = come.first n (omega (arith, same)) in
      left_at (λ (m : Member). m.bytes) (reg e).order n f.3.member zero_sector f.3.there
      ∙ same_bytes e initial le is f.0 f.1 f.3.member.bytes f.2 (gives_it (setup e) (history e) x (reg e).order (mover e) (reg e).is_order (mover_rule e le) (is_first e le) n f.1 f.3)
