-- The rule of a turn lock, and what each step tells.
use Rattle.std.specs.Prelude.{◌≡◌, ◌≢◌, ℕ, ◌+◌, ◌-◌, ◌%◌, ◌^◌, ◌<◌, ◌≤◌, ◌⊎◌, true, false, cond, List, [], ◌∷◌, length, Option as Maybe, Some, None}
use mathlib.Core.Option.{Option, none, some}
use lib.ListN.{get_elem?}
use Rattle.atomic_table.specs.Table.{State, Me, Step}
use Rattle.pf_turn.specs.declared.log.Stamped.{Stamped}
use Rattle.pf_turn.specs.declared.sight.Sight.{Sight}
use Rattle.pf_turn.specs.declared.sight.SightStage.{SightStage}
use Rattle.pf_turn.specs.declared.sight.SightStage.TheVariants.{Idle, Waiting, Called}
use Rattle.pf_turn.specs.Lists.{Begins, Every, SameOf, longer, tally, Unique, entries_of}

abbrev pub ticket_in : SightStage → Option ℕ
ticket_in Idle = none
ticket_in (Waiting t) = some t
ticket_in (Called t) = some t

abbrev pub weight : Option ℕ → ℕ
weight none = 0
weight (some n) = 1

module _ {E : Type 0} where
  -- seat n was taken in before: it adds no entry
  pub record IsGone (splits : ℕ) (history seen : List (Stamped E)) (n : ℕ) : Type 0 where
    pub below : n ≤ splits
    pub own : entries_of n history ≡ entries_of n seen

module _ {E K : Type 0} where
  -- seat n, which was made with this root and has seen this list
  abbrev pub newcomer : ℕ → Maybe K → List (Stamped E) → Sight E K
  newcomer n root seen = record {
    number = n;
    live = true;
    root = root;
    stage = Idle;
    seen = seen;
    before = seen;
    brought = seen;
    brought_by = n;
    gone = [];
    was_gone = [];
    drawn = 0;
    splits = 0;
    out = 0;
    was_out = 1;
  }

  abbrev pub opener : K → Sight E K
  opener k = newcomer 0 (Some k) []

  -- a joined seat
  abbrev pub spent : Sight E K
  spent = record (newcomer 0 None []) { live = false }

  abbrev pub ticket_of : Sight E K → Option ℕ
  ticket_of v = ticket_in v.stage

  abbrev pub number_of : Sight E K → Option ℕ
  number_of v = cond v.live (some v.number) none

  abbrev pub has_ticket : Sight E K → ℕ
  has_ticket v = weight (ticket_of v)

  abbrev pub is_live : Sight E K → ℕ
  is_live v = weight (number_of v)

  -- a seat that waits has a ticket that is not served yet, and the one that is called has seen the whole list
  abbrev pub Staged : ℕ → ℕ → List (Stamped E) → Sight E K → SightStage → Type 0
  Staged next served history v Idle = Unit {0}
  Staged next served history v (Waiting t) = (served ≤ t) × (t < next) × (v.live ≡ true)
  Staged next served history v (Called t) = (t ≡ served) × (t < next) × (v.live ≡ true) × (v.seen ≡ history)

  pub record Lives (drawn splits out : ℕ) (history : List (Stamped E)) (v : Sight E K) : Type 0 where
    pub begins : Begins v.seen history
    pub numbered : v.number ≤ splits
    pub own : entries_of v.number history ≡ entries_of v.number v.seen
    pub before : Begins v.before v.seen
    pub brought : Begins v.brought v.seen
    pub own_before : entries_of v.number v.seen ≡ entries_of v.number v.before
    pub own_brought : entries_of v.brought_by v.seen ≡ entries_of v.brought_by v.brought
    pub counts : v.number ≡ 0 → (v.drawn ≡ drawn) × (v.splits ≡ splits) × (v.out ≡ out)
    pub one_more : v.was_out ≡ v.out + 1
    pub gone : Every (IsGone splits history v.seen) v.gone
    pub was_gone : Every (SameOf v.seen v.before) v.was_gone

  pub record Knows (next served drawn splits out : ℕ) (history : List (Stamped E)) (v : Sight E K) : Type 0 where
    pub staged : Staged next served history v v.stage
    pub lives : v.live ≡ true → Lives drawn splits out history v

  abbrev pub IsCalled : List (Sight E K) → Type 0
  IsCalled views = (j t : ℕ) × (v : Sight E K) × (get_elem? views j ≡ some v) × (v.stage ≡ Called t)

  -- some seat has seen the whole list
  abbrev pub IsSeen : List (Sight E K) → List (Stamped E) → Type 0
  IsSeen views history = (j : ℕ) × (v : Sight E K) × (get_elem? views j ≡ some v) × (v.live ≡ true) × (v.seen ≡ history)

  -- each live seat has the root
  abbrev pub AreRooted : K → List (Sight E K) → Type 0
  AreRooted k views = (j : ℕ) (v : Sight E K) → get_elem? views j ≡ some v → v.live ≡ true → v.root ≡ Some k

module _ {E K : Type 0} where
  -- no live seat has the number of one that was taken in
  abbrev pub AreApart : List (Sight E K) → Type 0
  AreApart views = (i j : ℕ) (u v : Sight E K) → get_elem? views i ≡ some u → get_elem? views j ≡ some v → u.live ≡ true → v.live ≡ true
      → Every (λ n. v.number ≢ n) u.gone

module _ {X E K : Type 0} (log : X → List (Stamped E)) (root : X → K) where
  -- the value is at home, with its root, or out with the seat that is called
  abbrev pub Kept : K → List (Option (Maybe X)) → List (Sight E K) → List (Stamped E) → Type 0
  Kept k homes views history = ((y : X) × (homes ≡ some (Some y) ∷ []) × (log y ≡ history) × (root y ≡ k)) ⊎ ((homes ≡ none ∷ []) × IsCalled views)

  pub record Ruled (k : K) (s : State (Maybe X) (Sight E K)) : Type 0 where
    pub next : ℕ
    pub served : ℕ
    pub drawn : ℕ
    pub splits : ℕ
    pub out : ℕ
    pub history : List (Stamped E)
    pub words : s.words ≡ (next % 2 ^ 64) ∷ (served % 2 ^ 64) ∷ (drawn + 1) ∷ []
    pub tickets_count : served + tally has_ticket s.views ≡ next
    pub live_count : tally is_live s.views ≡ out + 1
    pub seats_count : length s.views ≡ splits + 1
    pub few : (drawn ≤ 2 ^ 32) × (splits ≤ 2 ^ 32)
    pub fresh : (n : ℕ) → splits < n → entries_of n history ≡ []
    pub kept : Kept k s.homes s.views history
    pub seen : IsSeen s.views history
    pub each : (j : ℕ) (v : Sight E K) → get_elem? s.views j ≡ some v → Knows next served drawn splits out history v
    pub rooted : AreRooted k s.views
    pub apart : AreApart s.views
    pub numbers : Unique number_of s.views
    pub tickets : Unique ticket_of s.views

abbrev Sat : Type 0 → Type 0 → Type 0 → Type 0
Sat X E K = Me (Maybe X) (Sight E K)

module _ {E K : Type 0} where
  abbrev pub staged_at : SightStage → Sight E K → Sight E K
  staged_at st v = record v { stage = st }

  -- the seat has this list in hand, and no ticket or one that is called
  abbrev pub holding : SightStage → List (Stamped E) → Sight E K → Sight E K
  holding st seen v = record v { stage = st; seen = seen; before = seen; brought = seen }

  abbrev pub drawing : Sight E K → Sight E K
  drawing v = record v { drawn = v.drawn + 1 }

  abbrev pub cut_left : Sight E K → Sight E K
  cut_left v = record v { splits = v.drawn; out = v.out + 1; was_out = v.was_out + 1 }

  abbrev pub cut_right : Sight E K → Sight E K
  cut_right v = newcomer v.drawn v.root v.seen

  abbrev pub glued : Sight E K → Sight E K → Sight E K
  glued v w = record v {
    seen = longer v.seen w.seen;
    before = v.seen;
    brought = w.seen;
    brought_by = w.number;
    gone = w.number ∷ v.gone;
    was_gone = v.gone;
    out = v.out - 1;
    was_out = v.out;
  }

module _ {X E K : Type 0} where
  abbrev pub drew : Step (Maybe X) → Sat X E K → ℕ → Sat X E K → Type 0
  drew st m r m' = (t : ℕ) × (r ≡ t % 2 ^ 64) × (m'.0 ≡ staged_at (Waiting t) m.0) × (m'.1 ≡ m.1)

  abbrev pub numbered : Step (Maybe X) → Sat X E K → ℕ → Sat X E K → Type 0
  numbered st m r m' = (r ≡ m.0.drawn + 1) × (m'.0 ≡ drawing m.0) × (m'.1 ≡ m.1) × (m.0.drawn ≡ m.0.splits → entries_of (m.0.drawn + 1) m.0.seen ≡ [])

  abbrev pub told : Step (Maybe X) → Sat X E K → ℕ → Sat X E K → Type 0
  told st m r m' = (m'.0 ≡ m.0) × (m'.1 ≡ m.1) × Begins m.0.before m.0.seen × Begins m.0.brought m.0.seen
      × (entries_of m.0.number m.0.seen ≡ entries_of m.0.number m.0.before) × (entries_of m.0.brought_by m.0.seen ≡ entries_of m.0.brought_by m.0.brought)
      × Every (SameOf m.0.seen m.0.before) m.0.was_gone × (m.0.was_out ≡ m.0.out + 1)
      × (m.0.number ≡ 0 → (n : ℕ) → m.0.splits < n → entries_of n m.0.seen ≡ [])

module _ {X E K : Type 0} (log : X → List (Stamped E)) (root : X → K) where
  -- the value that the seat takes begins with all that it has seen, has the seat's own entries and no others of its number, is
  -- exactly what it has seen where no other seat is out, and has the seat's root
  abbrev pub Found : Sight E K → X → Type 0
  Found v y = Begins v.seen (log y) × (entries_of v.number (log y) ≡ entries_of v.number v.seen) × (v.number ≡ 0 → v.out ≡ 0 → log y ≡ v.seen)
      × (v.root ≡ Some (root y))

  abbrev pub Takes : ℕ → Sat X E K → Sat X E K → Type 0
  Takes t m m' = (y : X) × (m'.1 ≡ (0, Some y) ∷ []) × (m'.0 ≡ holding (Called t) (log y) m.0) × Found m.0 y

  abbrev pub looked : Step (Maybe X) → Sat X E K → ℕ → Sat X E K → Type 0
  looked st m r m' = (t : ℕ) → m.0.stage ≡ Waiting t → (r ≡ t % 2 ^ 64 → Takes t m m') × (r ≢ t % 2 ^ 64 → (m'.0 ≡ m.0) × (m'.1 ≡ []))

module _ {X E K : Type 0} (log : X → List (Stamped E)) where
  abbrev pub served_next : Step (Maybe X) → Sat X E K → ℕ → Sat X E K → Type 0
  served_next st m r m' = (y : X) → m.1 ≡ (0, Some y) ∷ [] → (m'.0 ≡ holding Idle (log y) m.0) × (m'.1 ≡ [])
