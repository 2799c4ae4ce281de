-- A mount whose list and ballots are those of a journal, doing by doing.
use Rattle.std.proofs.Common.{◌≡◌, ◌≢◌, ℕ, suc, ◌<◌, Bool, true, false, cond, nat_lt, ◌==◌, List, [], ◌∷◌, ◌++◌, length, Option, Some, None, arith, refl, sym, ap, subst, ◌∙◌, length-append}
use Rattle.std.proofs.lemmas.Bool.{cond-false, cond-true, eq-eqb, lt-ltb, ne_eqb}
use Rattle.pf_paxos.specs.declared.parts.AnchorAsk.{AnchorAsk}
use Rattle.pf_paxos.specs.declared.parts.AnchorAsk.TheVariants.{Nothing, OwnBlock, Half}
use Rattle.pf_paxos.specs.declared.ballot.BallotStep.{BallotStep}
use Rattle.pf_paxos.specs.declared.ballot.BallotStep.TheVariants.{Go, Abort, NoValue, Decided}
use Rattle.pf_paxos.specs.Parts.{part_at}
use Rattle.pf_paxos.specs.Ballots.{BallotIs, started}
use Rattle.pf_paxos.specs.Quorums.{AnchorTurn}
use Rattle.pf_paxos.specs.BallotRuns.{Act, Asks, At, BallotCall, Calls, BallotEvent, GetsRead, IsWritten, Move, Mounts, Otherwise, Starts, ballots_after, move_at, move_in, ballot_move, no_turn, ballot_put}
use Rattle.pf_law_lists.specs.Journals.{Doing, Ballots, Acts, Looks, BallotJournal, journal_goes_on, position_of, list_told, told_by}
use Rattle.pf_journal.specs.declared.layouts.Layout.{Layout}
use Rattle.pf_journal.specs.declared.layouts.Layout.TheVariants.{Plain}
use Rattle.pf_mount_errands.specs.Positions.{PositionIs}
use Rattle.pf_paxos.proofs.BallotSteps.{is_step}
use Rattle.pf_mount_errands.proofs.Counts.{started_count, step_count}
use Rattle.pf_mount.proofs.AnchorAsks.{having_read_asked, next_asked, written_asked}
use Rattle.pf_law_calls.specs.Lives.{value_in}
use Rattle.pf_law_calls.proofs.Layouts.{anchors_in, new_count, new_in}
use Rattle.pf_law_calls.proofs.BallotReads.{read_anchors}

-- the mount stands behind its list with these ballots, and past that it did nothing yet
pub record Follows (layout : Layout) (j : BallotJournal) (m upto : ℕ) (p : BallotIs) (list : List (List ℕ)) : Type 0 where
  pub list_is : j.list m ≡ list
  pub upto_is : upto ≡ length list
  pub count : length p.parts ≡ anchors_in layout
  pub here : j.mounts upto m ≡ p
  pub later : (q : ℕ) → upto < q → j.mounts q m ≡ new_in layout m

-- Doings that leave it

nothing_happens : (b : Bool) (ps : Mounts) (x y : AnchorTurn) → ballots_after ps (cond b (Otherwise x) (Otherwise y)) ≡ ps
nothing_happens true ps x y = refl
nothing_happens false ps x y = refl

-- what a ballot of the mount waits for, at an anchor of a position
abbrev pub asked_in : BallotJournal → (m anchor position : ℕ) → AnchorAsk
asked_in j m anchor position = (part_at (j.mounts position m).parts anchor).asked

pub look_keeps : (j : BallotJournal) (m q : ℕ) (turn : AnchorTurn) (k : ℕ) → (journal_goes_on j (Looks q turn)).mounts k m ≡ j.mounts k m
look_keeps j m q turn k = ap (λ (ps : Mounts). ps m) (nothing_happens (k == q) (j.mounts k) turn no_turn)

pub after_look : {layout : Layout} (j : BallotJournal) (m upto : ℕ) (p : BallotIs) (list : List (List ℕ)) → Follows layout j m upto p list → (q : ℕ) (turn : AnchorTurn) → Follows layout (journal_goes_on j (Looks q turn)) m upto p list
after_look {layout} j m upto p list f q turn = record {
  list_is = f.list_is;
  upto_is = f.upto_is;
  count = f.count;
  here = look_keeps j m q turn upto ∙ f.here;
  later = λ k past. look_keeps j m q turn k ∙ f.later k past;
}

abbrev pub IsOf : (m : ℕ) → Doing → Type 0
IsOf m (Ballots mount above input) = mount ≡ m
IsOf m (Acts mount position anchor act) = mount ≡ m
IsOf m (Looks position turn) = Unit {0}

module _ (k m : ℕ) (apart : m ≢ k) where
  put_other : (ps : Mounts) (o : Option Move) → ballot_put ps k o m ≡ ps m
  put_other ps None = refl
  put_other ps (Some move) = cond-false (m == k) move.ballot (ps m) (ne_eqb m k apart)

  call_other : (b : Bool) (ps : Mounts) (call : BallotCall) → ballots_after ps (cond b (Calls k call) (Otherwise no_turn)) m ≡ ps m
  call_other true ps call = put_other ps (ballot_move ps (Calls k call))
  call_other false ps call = refl

  -- what another mount does
  pub other_keeps : (j : BallotJournal) (d : Doing) → IsOf k d → (q : ℕ) → (journal_goes_on j d).mounts q m ≡ j.mounts q m
  other_keeps j (Looks at turn) is q = look_keeps j m at turn q
  other_keeps j (Ballots n above input) is q = subst (λ (i : ℕ). (journal_goes_on j (Ballots i above input)).mounts q m ≡ j.mounts q m) (sym is) (call_other (q == position_of j k) (j.mounts q) (Starts above input))
  other_keeps j (Acts n at a act) is q = subst (λ (i : ℕ). (journal_goes_on j (Acts i at a act)).mounts q m ≡ j.mounts q m) (sym is) (call_other (q == at) (j.mounts q) (At a act))

  other_list : (j : BallotJournal) (d : Doing) → IsOf k d → (journal_goes_on j d).list m ≡ j.list m
  other_list j (Looks at turn) is = refl
  other_list j (Ballots n above input) is = refl
  other_list j (Acts n at a act) is = cond-false (m == n) (cond (at == position_of j n) (told_by (j.list n) (ballot_move (j.mounts at) (Calls n (At a act)))) (j.list n)) (j.list m) (ne_eqb m n (λ e. apart (e ∙ is)))

  pub after_other : {layout : Layout} (j : BallotJournal) (upto : ℕ) (p : BallotIs) (list : List (List ℕ)) → Follows layout j m upto p list → (d : Doing) → IsOf k d → Follows layout (journal_goes_on j d) m upto p list
  after_other {layout} j upto p list f d is = record {
    list_is = other_list j d is ∙ f.list_is;
    upto_is = f.upto_is;
    count = f.count;
    here = other_keeps j d is upto ∙ f.here;
    later = λ q past. other_keeps j d is q ∙ f.later q past;
  }

-- an act at an anchor of any position leaves what is asked at the other anchors
module _ (m b a : ℕ) (apart : b ≢ a) where
  abbrev AskedStill : BallotIs → Option Move → Type 0
  AskedStill p None = Unit {0}
  AskedStill p (Some move) = (part_at move.ballot.parts b).asked ≡ (part_at p.parts b).asked

  at_still : (p : BallotIs) (act : Act) (asked : AnchorAsk) → AskedStill p (move_at m a p act asked)
  at_still p Asks asked = next_asked b a apart p
  at_still p IsWritten OwnBlock = written_asked b a apart p
  at_still p IsWritten (Half half) = tt
  at_still p IsWritten Nothing = tt
  at_still p (GetsRead blocks) (Half half) =
      let x : PositionIs = record { layout = Plain; ballot = p; rivals = record { seen = 0; aborts = 0 } } in
      ap (λ (q : BallotIs). (part_at q.parts b).asked) (sym (read_anchors x a blocks)) ∙ having_read_asked b a apart x blocks
  at_still p (GetsRead blocks) OwnBlock = tt
  at_still p (GetsRead blocks) Nothing = tt

  still_if : (p : BallotIs) (c : Bool) (o : Option Move) → AskedStill p o → AskedStill p (cond c o None)
  still_if p true o is = is
  still_if p false o is = tt

  put_still : (ps : Mounts) (o : Option Move) → AskedStill (ps m) o → (part_at (ballot_put ps m o m).parts b).asked ≡ (part_at (ps m).parts b).asked
  put_still ps None is = refl
  put_still ps (Some move) is = ap (λ (q : BallotIs). (part_at q.parts b).asked) (cond-true (m == m) move.ballot (ps m) (eq-eqb m m refl)) ∙ is

  pub act_keeps : (j : BallotJournal) (n : ℕ) (act : Act) (q : ℕ) → asked_in (journal_goes_on j (Acts m n a act)) m b q ≡ asked_in j m b q
  act_keeps j n act q = by (q == n)
    where
      by : (c : Bool) → (part_at (ballots_after (j.mounts q) (cond c (Calls m (At a act)) (Otherwise no_turn)) m).parts b).asked ≡ asked_in j m b q
      by true =
          let p = j.mounts q m in
          let o = move_at m a p act (part_at p.parts a).asked in
          put_still (j.mounts q) (ballot_move (j.mounts q) (Calls m (At a act))) (still_if p (nat_lt m 16) (cond (nat_lt a (length p.parts)) o None) (still_if p (nat_lt a (length p.parts)) o (at_still p act (part_at p.parts a).asked)))
      by false = refl

module _ {layout : Layout} (j : BallotJournal) (m upto : ℕ) (p : BallotIs) (list : List (List ℕ)) (f : Follows layout j m upto p list) where
  pub stands_at : position_of j m ≡ upto
  stands_at = ap (λ (l : List (List ℕ)). length l) f.list_is ∙ sym f.upto_is

  -- Doings at an anchor

  module _ (n a : ℕ) (act : Act) where
    abbrev after : BallotJournal
    after = journal_goes_on j (Acts m n a act)

    abbrev move : Option Move
    move = ballot_move (j.mounts n) (Calls m (At a act))

    elsewhere : (q : ℕ) → q ≢ n → after.mounts q m ≡ j.mounts q m
    elsewhere q apart = ap (λ (e : BallotEvent). ballots_after (j.mounts q) e m) (cond-false (q == n) (Calls m (At a act)) (Otherwise no_turn) (ne_eqb q n apart))

    list_here : after.list m ≡ cond (n == position_of j m) (told_by (j.list m) move) (j.list m)
    list_here = cond-true (m == m) (cond (n == position_of j m) (told_by (j.list m) move) (j.list m)) (j.list m) (eq-eqb m m refl)

    -- a late answer, at a position that the mount has left
    pub after_late : n < upto → Follows layout after m upto p list
    after_late left = record {
      list_is = list_here ∙ cond-false (n == position_of j m) (told_by (j.list m) move) (j.list m) (ne_eqb n (position_of j m) (λ e. absurd (omega (arith, e, stands_at, left)))) ∙ f.list_is;
      upto_is = f.upto_is;
      count = f.count;
      here = elsewhere upto (λ e. absurd (omega (arith, e, left))) ∙ f.here;
      later = λ q past. elsewhere q (λ e. absurd (omega (arith, e, left, past))) ∙ f.later q past;
    }

  module _ (low_m : m < 16) where
    -- an act at the position where the mount stands
    module _ (a : ℕ) (low_a : a < anchors_in layout) (act : Act) (move : Move) (is : move_at m a p act (part_at p.parts a).asked ≡ Some move) where
      abbrev acted : BallotJournal
      acted = journal_goes_on j (Acts m upto a act)

      moves_in : move_in m p (At a act) ≡ Some move
      moves_in = cond-true (nat_lt a (length p.parts)) (move_at m a p act (part_at p.parts a).asked) None (lt-ltb a (length p.parts) (omega (arith, low_a, f.count))) ∙ is

      moves : ballot_move (j.mounts upto) (Calls m (At a act)) ≡ Some move
      moves =
          cond-true (nat_lt m 16) (move_in m (j.mounts upto m) (At a act)) None (lt-ltb m 16 low_m)
          ∙ ap (λ (x : BallotIs). move_in m x (At a act)) f.here
          ∙ moves_in

      pub acted_here : acted.mounts upto m ≡ move.ballot
      acted_here =
          ap (λ (e : BallotEvent). ballots_after (j.mounts upto) e m) (cond-true (upto == upto) (Calls m (At a act)) (Otherwise no_turn) (eq-eqb upto upto refl))
          ∙ ap (λ (o : Option Move). ballot_put (j.mounts upto) m o m) moves
          ∙ cond-true (m == m) move.ballot (j.mounts upto m) (eq-eqb m m refl)

      acted_list : acted.list m ≡ list_told list move.step
      acted_list =
          list_here upto a act
          ∙ cond-true (upto == position_of j m) (told_by (j.list m) (ballot_move (j.mounts upto) (Calls m (At a act)))) (j.list m) (eq-eqb upto (position_of j m) (sym stands_at))
          ∙ ap (told_by (j.list m)) moves
          ∙ ap (λ (l : List (List ℕ)). list_told l move.step) f.list_is

      acted_later : (q : ℕ) → upto < q → acted.mounts q m ≡ new_in layout m
      acted_later q past = elsewhere upto a act q (λ e. absurd (omega (arith, e, past))) ∙ f.later q past

      untold : (step : BallotStep) → value_in step ≡ None → list_told list step ≡ list
      untold Go none = refl
      untold (Abort mbal) none = refl
      untold NoValue none = refl
      untold (Decided v) none = absurd (grind (arith, none))

      -- that decides nothing
      pub after_act : value_in move.step ≡ None → Follows layout acted m upto move.ballot list
      after_act none = record {
        list_is = acted_list ∙ untold move.step none;
        upto_is = f.upto_is;
        count = step_count m p move (is_step m p (At a act) move moves_in) ∙ f.count;
        here = acted_here;
        later = acted_later;
      }

      -- that decides a value
      pub after_decision : (v : List ℕ) → move.step ≡ Decided v → Follows layout acted m (suc upto) (new_in layout m) (list ++ v ∷ [])
      after_decision v decides = record {
        list_is = acted_list ∙ ap (list_told list) decides;
        upto_is = omega (arith, f.upto_is, length-append list (v ∷ []));
        count = new_count layout m;
        here = acted_later (suc upto) (omega arith);
        later = λ q past. acted_later q (omega (arith, past));
      }

    -- a ballot begins
    module _ (above : ℕ) (input : Option (List ℕ)) where
      abbrev ballots : BallotJournal
      ballots = journal_goes_on j (Ballots m above input)

      begun_here : ballots.mounts upto m ≡ started p above input
      begun_here =
          ap (λ (e : BallotEvent). ballots_after (j.mounts upto) e m) (cond-true (upto == position_of j m) (Calls m (Starts above input)) (Otherwise no_turn) (eq-eqb upto (position_of j m) (sym stands_at)))
          ∙ ap (λ (o : Option Move). ballot_put (j.mounts upto) m o m) (cond-true (nat_lt m 16) (move_in m (j.mounts upto m) (Starts above input)) None (lt-ltb m 16 low_m))
          ∙ cond-true (m == m) (started (j.mounts upto m) above input) (j.mounts upto m) (eq-eqb m m refl)
          ∙ ap (λ (x : BallotIs). started x above input) f.here

      pub ballot_keeps : (q : ℕ) → q ≢ upto → ballots.mounts q m ≡ j.mounts q m
      ballot_keeps q apart = ap (λ (e : BallotEvent). ballots_after (j.mounts q) e m) (cond-false (q == position_of j m) (Calls m (Starts above input)) (Otherwise no_turn) (ne_eqb q (position_of j m) (λ e. apart (e ∙ stands_at))))

      pub after_ballot : Follows layout ballots m upto (started p above input) list
      after_ballot = record {
        list_is = f.list_is;
        upto_is = f.upto_is;
        count = started_count p above input ∙ f.count;
        here = begun_here;
        later = λ q past. ballot_keeps q (λ e. absurd (omega (arith, e, past))) ∙ f.later q past;
      }
