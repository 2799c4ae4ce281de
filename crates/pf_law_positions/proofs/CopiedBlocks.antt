-- The blocks of a hosted position are registers whose writes may be copied.
use Rattle.std.proofs.Common.{◌≡◌, ℕ, zero, suc, ◌/◌, ◌%◌, ◌<◌, ◌≤◌, List, length, Option, Some, None, slice_get, arith, refl, sym, ap, subst, ◌∙◌}
use Rattle.std.proofs.lemmas.Option.{same_Some, none-some}
use Rattle.pf_entry.specs.Ops.{Sector}
use Rattle.pf_protocol.specs.Groups.{Answered}
use Rattle.pf_law_registers.specs.Orders.{given}
use Rattle.pf_law_registers.specs.Registers.{IsAtLeast, IsNotBelow}
use Rattle.pf_paxos.specs.declared.block.Block.{Block}
use Rattle.pf_paxos.specs.Registers.{Turn, ClientHasRead, HasWritten, member, block_before, AreRegisters}
use Rattle.pf_paxos.specs.Copies.{HasCopy, GivesPlace, Zeros, Copy, AreCopies}
use Rattle.pf_paxos.proofs.CopiedRegisters.{copied}
use Rattle.pf_law_positions.specs.Deeds.{Got, Deed, Takes, Groups}
use Rattle.pf_law_positions.specs.Homes.{PositionHome, sector_of, turns_in}
use Rattle.pf_law_positions.specs.Hosted.{IsHosted}
use Rattle.pf_law_positions.proofs.PositionAnswers.{write_of, read_of}
use Rattle.pf_law_positions.proofs.Epochs.{value, shown_bytes, IsShown}
use Rattle.pf_law_positions.proofs.Blocks.{BlockRead, block_read, asked_write, later, asked_before, earlier_read, earlier_write}

-- the read that a deed brings
pub record Brought : Type 0 where
  pub epoch : ℕ
  pub answer : Answered

abbrev pub brought : Option Deed → Option Brought
brought (Some (Takes client (Some (Got chunk epoch by answer)) next)) = Some (record { epoch = epoch; answer = answer })
brought _ = None

-- the place of a write in the order of copies: one copy of each, at the moment after it was asked
abbrev pub place_of : Option ℕ → ℕ
place_of None = 0
place_of (Some write) = suc write

abbrev pub at_place : ℕ → Option ℕ
at_place zero = None
at_place (suc write) = Some write

abbrev pub place_in : (ℕ → Answered → Option ℕ) → Option Brought → ℕ
place_in value None = 0
place_in value (Some read) = place_of (value read.epoch read.answer)

pub in_order : (low high older younger : ℕ) → at_place low ≡ Some older → at_place high ≡ Some younger → low ≤ high → older ≤ younger
in_order zero high older younger a b le = absurd (none-some older a)
in_order (suc low) zero older younger a b le = absurd (none-some younger b)
in_order (suc low) (suc high) older younger a b le = omega (arith, same_Some low older a, same_Some high younger b, le)

pub has_copy : (shown : Option ℕ) (write : ℕ) → IsAtLeast shown write → HasCopy at_place write (place_of shown)
has_copy None write low = absurd low
has_copy (Some w) write low = record { at = suc w; of = w; is = refl; not_older = low; not_above = omega arith }

pub rises : (later earlier : Option ℕ) → IsNotBelow later earlier → place_of earlier ≤ place_of later
rises later None up = omega arith
rises None (Some w) up = absurd up
rises (Some v) (Some w) up = omega (arith, up)

module _ (groups : Groups) (read : Sector → Block) (home : PositionHome) (deeds : List Deed) (hosted : IsHosted groups read home deeds) where
  abbrev turns : List Turn
  turns = turns_in read home deeds

  abbrev given_at : (answered b : ℕ) → ℕ
  given_at answered b = place_in (value groups read home deeds hosted b) (brought (slice_get deeds answered))

  module _ (b client asked answered : ℕ) (blocks : List Block) (low : b < 16) (has : ClientHasRead turns client (b / 8) asked answered blocks) where
    r : BlockRead groups read home deeds hosted b client asked answered blocks
    r = block_read groups read home deeds hosted b low client asked answered blocks has

    abbrev its_value : Option ℕ
    its_value = value groups read home deeds hosted b r.of.epoch r.of.answer

    place_is : given_at answered b ≡ place_of its_value
    place_is = ap (λ d. place_in (value groups read home deeds hosted b) (brought d)) r.of.at

    by_shown : (o : Option ℕ) → its_value ≡ o → IsShown groups read home deeds hosted b r.of.epoch o r.bytes → GivesPlace turns at_place b answered (place_of o) (read r.bytes)
    by_shown None is zeros = subst (GivesPlace turns at_place b answered 0) (sym (ap read zeros ∙ hosted.zeros)) Zeros
    by_shown (Some write) is (of, within, its) =
        let lt = asked_before groups read home deeds hosted b low client asked answered blocks r write is in
        let block = asked_write groups read home deeds hosted b low of its.1.k its.1.submission r.bytes (omega (arith, within, r.within)) its.1.there (ap (λ o. given o (sector_of home b)) its.1.has_op ∙ its.2) in
        subst (GivesPlace turns at_place b answered (suc write)) (ap (λ w. block_before turns b (suc w)) (sym its.1.is_write) ∙ block) (Copy (suc write) write refl lt)

    pub gives : (block : Block) × (slice_get blocks (b % 8) ≡ Some block) × GivesPlace turns at_place b answered (given_at answered b) block
    gives =
        let shown = shown_bytes groups read home deeds hosted b low r.of.epoch r.of.answer r.bytes r.within r.gives (later groups read home deeds hosted b low client asked answered blocks r) in
        (read r.bytes, r.has, subst (λ p. GivesPlace turns at_place b answered p (read r.bytes)) (sym place_is) (by_shown its_value refl shown))

    pub whole : length blocks ≡ 8
    whole = r.as_many

    pub fresh : (w done : ℕ) (block : Block) → HasWritten turns b w done block → done ≤ asked → HasCopy at_place w (given_at answered b)
    fresh w done block wrote first =
        let it = write_of read home deeds groups b w done block (hosted.fits (b / 8) (omega arith)) wrote in
        subst (HasCopy at_place w) (sym place_is) (has_copy its_value w (earlier_write groups read home deeds hosted b low client asked answered blocks r w done it first))

  pub rising : (b client asked answered : ℕ) (blocks : List Block) → b < 16 → ClientHasRead turns client (b / 8) asked answered blocks → (other from to : ℕ) (before : List Block) → ClientHasRead turns other (b / 8) from to before → to ≤ asked → given_at to b ≤ given_at answered b
  rising b client asked answered blocks low has other from to before earlier first =
      let one = r b client asked answered blocks low has in
      let two = r b other from to before low earlier in
      let up = earlier_read groups read home deeds hosted b low client asked answered blocks one other from to before two first in
      omega (arith, rises (its_value b client asked answered blocks low has) (its_value b other from to before low earlier) up, place_is b client asked answered blocks low has, place_is b other from to before low earlier)

  -- of a half that was read
  module _ (client half asked answered place : ℕ) (blocks : List Block) (has : ClientHasRead turns client half asked answered blocks) (inside : place < 8) where
    half_low : half < 2
    half_low = (read_of read home deeds groups client half asked answered blocks hosted has).low

    pub low : member half place < 16
    low = omega (arith, half_low, inside)

    pub half_is : half ≡ member half place / 8
    half_is = omega (arith, inside)

    pub place_at : member half place % 8 ≡ place
    place_at = omega (arith, inside)

    pub has_it : ClientHasRead turns client (member half place / 8) asked answered blocks
    has_it = subst (λ h. ClientHasRead turns client h asked answered blocks) half_is has

  pub copies : AreCopies turns
  copies = record {
    copy = λ client. at_place;
    in_order = λ client low high older younger. in_order low high older younger;
    from_one = λ client write is. none-some write is;
    given = given_at;
    whole = λ client half asked answered blocks has.
        let inside : 0 < 8 = omega arith in
        whole (member half 0) client asked answered blocks (low client half asked answered 0 blocks has inside) (has_it client half asked answered 0 blocks has inside);
    gives = λ client half asked answered place blocks has inside.
        let p = gives (member half place) client asked answered blocks (low client half asked answered place blocks has inside) (has_it client half asked answered place blocks has inside) in
        (p.0, ap (slice_get blocks) (sym (place_at client half asked answered place blocks has inside)) ∙ p.1, p.2);
    fresh = λ client half asked answered place blocks has inside.
        fresh (member half place) client asked answered blocks (low client half asked answered place blocks has inside) (has_it client half asked answered place blocks has inside);
    rising = λ client half asked answered place blocks has inside other from to before earlier first.
        rising (member half place) client asked answered blocks (low client half asked answered place blocks has inside) (has_it client half asked answered place blocks has inside) other from to before
        (subst (λ h. ClientHasRead turns other h from to before) (half_is client half asked answered place blocks has inside) earlier) first;
  }

pub registers : (groups : Groups) (read : Sector → Block) (home : PositionHome) (deeds : List Deed) → IsHosted groups read home deeds → AreRegisters (turns_in read home deeds)
registers groups read home deeds hosted = copied (turns_in read home deeds) (copies groups read home deeds hosted)
