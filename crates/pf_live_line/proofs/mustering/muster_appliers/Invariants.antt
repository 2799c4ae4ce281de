use Rattle.std.proofs.Common.{◌≡◌, ◌+◌, vec_len, vec_capacity}
use Rattle.pf_live_seats.specs.pf_shared.specs.Seats.{IsFirst, IsSeatOf, gone_of, out_of, seen_by, splits_of}
use Rattle.pf_live_line.specs.Mustered.{AreMustered}
use Rattle.pf_live_line.proofs.mustering.muster_appliers.Given as goal

abbrev pub invariant-loop-number : goal.invariant-loop-number
invariant-loop-number g l = AreMustered l.line.group l.line.cell l.line.plan l.line.rings.items l._begun.value l.line.plan.hosts (splits_of l._begun.value + 3 + l.number) l.workers.items
    × IsSeatOf l.line.group l.first × IsFirst l.first
    × (splits_of l.first ≡ splits_of l.initial.first + l.number) × (out_of l.first ≡ out_of l.initial.first + l.number) × (gone_of l.first ≡ gone_of l.initial.first) × (seen_by l.first ≡ seen_by l.initial.first)
    × (vec_len l.workers ≡ vec_len l.initial.workers + l.number) × (vec_capacity l.workers ≡ vec_capacity l.initial.workers)
