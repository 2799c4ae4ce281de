-- What the mover did, by what a run told.
use Rattle.std.specs.Prelude.{ℕ, suc, ◌==◌, if◌then◌else◌, List, [], ◌∷◌, ◌++◌, Option}
use Rattle.std.specs.List.{fold}
use Rattle.std.specs.Option.{option_map}
use Rattle.pf_base.specs.declared.asks.Reply.{Reply}
use Rattle.pf_base.specs.declared.asks.Reply.TheVariants.{Bytes, Written}
use Rattle.pf_move.specs.Turns.{MoverTurn}
use Rattle.pf_world_moments.specs.Moments.{Heard, Moment, Carries, Moves}
use Rattle.pf_law_movers.specs.Epochs.{epoch_of, group_of_epoch}

-- the group of which a reply to the mover of the chunk comes: it reads the one that serves it, and writes the next
abbrev pub group_asked : (before : List Moment) → (chunk : ℕ) → Reply → Option ℕ
group_asked before chunk (Bytes sectors) = group_of_epoch before chunk (epoch_of before chunk)
group_asked before chunk Written = group_of_epoch before chunk (suc (epoch_of before chunk))

abbrev pub reply_of_heard : Option Heard → Option Reply
reply_of_heard heard = option_map (λ (h : Heard). h.reply) heard

-- one turn more of the last move
abbrev pub with_turn : List (List MoverTurn) → MoverTurn → List (List MoverTurn)
with_turn [] turn = []
with_turn (turns ∷ []) turn = (turns ++ turn ∷ []) ∷ []
with_turn (turns ∷ more) turn = turns ∷ with_turn more turn

-- the mover's calls in the chunk's moves, one list for each
abbrev pub carried : (chunk : ℕ) → List (List MoverTurn) → Moment → List (List MoverTurn)
carried chunk moves (Moves c to) = if c == chunk then moves ++ [] ∷ [] else moves
carried chunk moves (Carries c heard next) = if c == chunk then with_turn moves (record { reply = reply_of_heard heard; next = next }) else moves
carried chunk moves moment = moves

abbrev pub moves_of : List Moment → (chunk : ℕ) → List (List MoverTurn)
moves_of told chunk = fold (carried chunk) [] told
