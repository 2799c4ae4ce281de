-- The workers of a live line, and what they keep.
use Rattle.std.specs.Prelude.{◌≡◌, true, false, List, [], ◌∷◌, ◌++◌, None}
use Rattle.pf_turn.specs.declared.log.Stamped.{Stamped}
use Rattle.pf_turn.specs.Lists.{entries_of}
use Rattle.pf_disk.specs.declared.disk.Disk.{Ghosts}
use Rattle.pf_entry.specs.declared.ops.Job.{Job}
use Rattle.pf_protocol.specs.declared.answers.Answer.TheVariants.{Job as JobIs}
use Rattle.pf_protocol.specs.declared.events.Event.TheVariants.{Claim}
use Rattle.pf_shared.specs.declared.moment.SeatMoment.{SeatMoment}
use Rattle.pf_shared.specs.declared.moment.SeatMoment.TheVariants.{Happened}
use Rattle.pf_shared.specs.Moments.{entry}
use Rattle.pf_shared.specs.Seats.{IsSeatOf, number_of, seen_by}
use Rattle.pf_shared.specs.Hands.{HasInHand, Key, hand_of, key}
use Rattle.pf_shared.specs.declared.parts.SharedGroup.{SharedGroup}
use Rattle.pf_live_seats.specs.declared.applying.Applier.{Applier}
use Rattle.pf_turn.specs.Own.{EachOf}
use Rattle.pf_live_seats.specs.Roles.{Applies, EndsWith, GivesNoneBack, nothing_free}

module _ {D : Type 0} {disk : Ghosts D} where
  pub record IsApplier (group : SharedGroup D disk) (a : Applier D disk) : Type 0 where
    pub seat : IsSeatOf group a.seat
    pub steps : EachOf (number_of a.seat) Applies (seen_by a.seat)
    -- no job is in its hand
    pub free : (k : Key) → hand_of k None (entries_of (number_of a.seat) (seen_by a.seat)) ≡ None
    -- it gave no job back, and ended once nothing was free, unless memory ran out
    pub kept : a.wants ≡ false → GivesNoneBack (entries_of (number_of a.seat) (seen_by a.seat))
    pub ended : a.ended ≡ true → a.wants ≡ false → EndsWith (entries_of (number_of a.seat) (seen_by a.seat)) (nothing_free (number_of a.seat))

  -- it has this job in hand, and no other
  pub record Holds (group : SharedGroup D disk) (job : Job) (a : Applier D disk) : Type 0 where
    pub seat : IsSeatOf group a.seat
    pub steps : EachOf (number_of a.seat) Applies (seen_by a.seat)
    pub in_hand : HasInHand (number_of a.seat) (key job.server job.life job.slot) job.op (seen_by a.seat)
    pub before : List (Stamped SeatMoment)
    pub own : entries_of (number_of a.seat) (seen_by a.seat) ≡ before ++ entry (number_of a.seat) (Happened (record { event = Claim; answer = JobIs job })) ∷ []
    pub free : (k : Key) → hand_of k None before ≡ None
    pub kept : a.wants ≡ false → GivesNoneBack before
    pub on : a.ended ≡ false

  -- its last claim found nothing
  pub record HasNothing (group : SharedGroup D disk) (a : Applier D disk) : Type 0 where
    pub is : IsApplier group a
    pub last : EndsWith (entries_of (number_of a.seat) (seen_by a.seat)) (nothing_free (number_of a.seat))
