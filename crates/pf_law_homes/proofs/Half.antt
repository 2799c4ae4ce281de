-- The blocks of one half are registers.
use Rattle.std.proofs.Common.{◌≡◌, ◌≢◌, ℕ, suc, ◌+◌, ◌*◌, ◌/◌, ◌%◌, ◌<◌, ◌≤◌, inl, inr, ◌==◌, Bool, true, false, cond, List, [], ◌∷◌, ◌++◌, Some, slice_get, arith, refl, sym, ap, subst, ◌∙◌}
use Rattle.std.proofs.lemmas.Bool.{cases_eq, cond-false, cond-true, eq-eqb, ne_eqb}
use Rattle.std.proofs.lemmas.Option.{none-some}
use Rattle.pf_entry.specs.Ops.{Sector, zero_sector}
use Rattle.pf_protocol.specs.Answers.{IsLegal}
use Rattle.pf_protocol.specs.Groups.{Answered}
use Rattle.pf_protocol.specs.Histories.{History, IsPrefix}
use Rattle.pf_protocol.specs.declared.events.Happening.{Happening}
use Rattle.pf_protocol.specs.Ports.{Submission}
use Rattle.pf_law_registers.specs.Orders.{given}
use Rattle.pf_paxos.specs.declared.block.Block.{Block}
use Rattle.pf_paxos.specs.Blocks.{zero_block}
use Rattle.pf_paxos.specs.Registers.{AreRegisters}
use Rattle.pf_law_positions.specs.Deeds.{Acks, Brings, BringsBy, Deed, DeedsFit, Got, Groups, Hands, IsOfEpoch, IsPort, Put, Puts, Reads, Submits, Takes}
use Rattle.pf_law_positions.specs.Homes.{PositionHome, chunk_of_block, sector_of, turns_in}
use Rattle.pf_law_epochs.specs.Positions.{IsRoutedPosition}
use Rattle.pf_law_epochs.specs.Routed.{IsRouted}
use Rattle.pf_law_epochs.proofs.Positions.{position_registers}
use Rattle.pf_law_homes.specs.Chunks.{AreDeedsAt, ChunkGroups, IsDeedAt, IsRoutedHalf, groups_in, only_half}
use Rattle.pf_law_homes.proofs.ChunkGroups.{routed_copied, spread}

-- A chunk of which nobody asks anything

abbrev HasAny : History → Type 0
HasAny [] = ⊥
HasAny (h ∷ hs) = Unit {0}

has_any : (before rest : History) (h : Happening) → HasAny ((before ++ h ∷ []) ++ rest)
has_any [] rest h = tt
has_any (x ∷ xs) rest h = tt

nothing_more : (before : History) (h : Happening) → IsPrefix (before ++ h ∷ []) [] → ⊥
nothing_more before h p = subst HasAny p.whole (has_any before p.rest h)

-- its group begins as that of a chunk that is there
abbrev none_like : ChunkGroups → ChunkGroups
none_like x = record {
  moves = 0;
  setup = λ epoch. x.setup 0;
  history = λ epoch. [];
  writes = λ epoch client. [];
  moved = λ epoch. [];
}

module _ (c n : ℕ) (other : n ≢ c) (deeds : List Deed) (are : AreDeedsAt c deeds) where
  brings_none : (epoch by : ℕ) (deed : Deed) → IsDeedAt c deed → BringsBy n epoch by deed → ⊥
  brings_none epoch by _ is (Acks client op ask) = other is.0
  brings_none epoch by _ is (Reads client read ask) = other is.0

  of_none : (epoch : ℕ) (deed : Deed) → IsDeedAt c deed → IsOfEpoch n epoch deed → ⊥
  of_none epoch _ is (Hands client place) = other is
  of_none epoch _ is (Brings by deed brings) = brings_none epoch by deed is brings

  module _ (x : ChunkGroups) where
    abbrev none : Groups
    none = groups_in (none_like x)

    no_port : (epoch client : ℕ) → IsPort none deeds n epoch client
    no_port epoch client = record {
      happened = λ k a at. absurd (none-some a at);
      handed = λ k a at. absurd (none-some a at);
      in_order = λ k a b at next. absurd (none-some a at);
      term = λ k. 0;
      in_term = λ k a at target. absurd (none-some a at);
      no_lower = λ k a b at next. absurd (none-some a at);
      again = λ k a b at next same whole. absurd (none-some a at);
    }

    none_fits : DeedsFit none deeds n
    none_fits = record {
      places = λ moment later epoch client o place next lt at at_later. absurd (other (are moment (Submits client n epoch place) at));
      rises = λ moment later epoch client by place deed lt at brings at_later. absurd (brings_none epoch by deed (are moment deed at) brings);
      goes_on = λ moment later epoch o deed next lt at is at_later its. absurd (of_none epoch deed (are moment deed at) is);
      reached = λ moment epoch deed at is. absurd (of_none epoch deed (are moment deed at) is);
      port = λ epoch client le. no_port epoch client;
      waits = λ client asked moment op reply next pending at. absurd (other (are asked (Takes client pending.reply (Some (Puts n op))) pending.at).1);
      put = λ client moment epoch by op ask at. absurd (other (are moment (Takes client (Some (Put n epoch by op)) ask) at).0);
      got = λ client moment epoch by read ask at. absurd (other (are moment (Takes client (Some (Got n epoch by read)) ask) at).0);
    }

    none_routed : (legal : IsLegal (x.setup 0) (x.history 0)) (last : Answered) → IsRouted none deeds n 0
    none_routed legal last = record {
      fits = none_fits;
      legal = λ epoch le. record { is_setup = legal.is_setup; legal = tt };
      inside = λ epoch le. let some = legal.is_setup.some_sectors in omega (arith, some);
      of_ports = λ epoch nth le lt before server op answer bytes made took gives. absurd (nothing_more before _ made);
      last = λ epoch. last;
      moved = λ epoch lt. absurd (omega (arith, lt));
    }

-- The half alone

module _ (x : ChunkGroups) (read : Sector → Block) (home : PositionHome) (half : ℕ) (low : half < 2) (deeds : List Deed) (are : AreDeedsAt (home.chunk half) deeds) (zeros : read zero_sector ≡ zero_block) (p : IsRoutedHalf x home half deeds) where
  abbrev c : ℕ
  c = home.chunk half

  -- the groups of its chunk, and none elsewhere
  of : ℕ → ChunkGroups
  of chunk = cond (chunk == c) x (none_like x)

  of_here : of c ≡ x
  unfolding of
  of_here = cond-true (c == c) x (none_like x) (eq-eqb c c refl)

  of_other : of (suc c) ≡ none_like x
  unfolding of
  of_other = cond-false (suc c == c) x (none_like x) (ne_eqb (suc c) c (λ e. absurd (omega (arith, e))))

  routed_here : IsRouted (spread of) deeds c p.piece
  routed_here = routed_copied of deeds c p.piece (subst (λ (y : ChunkGroups). IsRouted (groups_in y) deeds c p.piece) (sym of_here) p.routed)

  routed_other : IsRouted (spread of) deeds (suc c) 0
  routed_other =
      routed_copied of deeds (suc c) 0
      (subst (λ (y : ChunkGroups). IsRouted (groups_in y) deeds (suc c) 0) (sym of_other)
      (none_routed c (suc c) (λ e. absurd (omega (arith, e))) deeds are x (p.routed.legal 0 (omega arith)) (p.routed.last 0)))

  piece_of : ℕ → ℕ
  piece_of other = cond (other == half) p.piece 0

  at_piece : (other : ℕ) → (only_half home half).first other ≡ 8 * piece_of other
  unfolding piece_of
  at_piece other = by (other == half)
    where
      by : (b : Bool) → cond b (home.first half) 0 ≡ 8 * cond b p.piece 0
      by true = p.at_piece
      by false = refl

  routed_in : (other : ℕ) → IsRouted (spread of) deeds ((only_half home half).chunk other) (piece_of other)
  unfolding piece_of
  routed_in other = by (other == half)
    where
      by : (b : Bool) → IsRouted (spread of) deeds (cond b c (suc c)) (cond b p.piece 0)
      by true = routed_here
      by false = routed_other

  its_own : (block epoch client k : ℕ) (a : Submission) (bytes : Sector) → block < 16 → epoch ≤ (of (chunk_of_block (only_half home half) block)).moves → slice_get ((of (chunk_of_block (only_half home half) block)).writes epoch client) k ≡ Some a → given a.op (sector_of (only_half home half) block) ≡ Some bytes → client ≡ block
  its_own block epoch client k a bytes small le there gives = elim (cases_eq (block / 8) half) [
    | inl same ↦
        let chunk : chunk_of_block (only_half home half) block ≡ c = cond-true (block / 8 == half) c (suc c) (eq-eqb (block / 8) half same) in
        let is : of (chunk_of_block (only_half home half) block) ≡ x = ap of chunk ∙ of_here in
        let sector : sector_of (only_half home half) block ≡ sector_of home block = ap (λ first. first + block % 8) (cond-true (block / 8 == half) (home.first half) 0 (eq-eqb (block / 8) half same) ∙ ap home.first (sym same)) in
        p.own block epoch client k a bytes small same
        (subst (λ (y : ChunkGroups). epoch ≤ y.moves) is le)
        (subst (λ (y : ChunkGroups). slice_get (y.writes epoch client) k ≡ Some a) is there)
        (subst (λ s. given a.op s ≡ Some bytes) sector gives)
    | inr apart ↦
        let chunk : chunk_of_block (only_half home half) block ≡ suc c = cond-false (block / 8 == half) c (suc c) (ne_eqb (block / 8) half apart) in
        let is : of (chunk_of_block (only_half home half) block) ≡ none_like x = ap of chunk ∙ of_other in
        absurd (none-some a (subst (λ (y : ChunkGroups). slice_get (y.writes epoch client) k ≡ Some a) is there))
  ]

  position : IsRoutedPosition (spread of) read (only_half home half) deeds
  position = record {
    zeros = zeros;
    piece = piece_of;
    at_piece = λ other lt. at_piece other;
    routed = λ other lt. routed_in other;
    own = its_own;
  }

pub half_registers : (x : ChunkGroups) (read : Sector → Block) (home : PositionHome) (half : ℕ) (deeds : List Deed) → half < 2 → AreDeedsAt (home.chunk half) deeds → read zero_sector ≡ zero_block → IsRoutedHalf x home half deeds → AreRegisters (turns_in read (only_half home half) deeds)
half_registers x read home half deeds low are zeros p =
    let of_chunk = of x read home half low deeds are zeros p in
    position_registers (spread of_chunk) read (only_half home half) deeds (position x read home half low deeds are zeros p)
