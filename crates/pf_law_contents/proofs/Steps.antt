-- Steps of file data, one after another.
use Rattle.std.proofs.Common.{◌≡◌, List, [], ◌∷◌, ◌++◌, refl, sym, subst}
use Rattle.pf_base.specs.Asks.{Answers}
use Rattle.pf_base.specs.declared.asks.Ask.{Ask}
use Rattle.pf_base.specs.declared.asks.Reply.{Reply}
use Rattle.pf_volume.specs.Volumes.{Extent}
use Rattle.pf_tree_tables.specs.Tables.{Tables}
use Rattle.pf_file_calls.specs.Moving.{moves_on}
use Rattle.pf_file_calls.specs.declared.answers.CallAnswer.{CallAnswer}
use Rattle.pf_file_calls.specs.declared.moving.DataMoving.{DataMoving}
use Rattle.pf_file_calls.specs.declared.moving.Moved.{Moved}
use Rattle.pf_file_calls.specs.declared.moving.Moved.TheVariants.{Asks, Ends}
use Rattle.pf_law_plans.specs.Exchanges.{Exchange}
use Rattle.pf_law_contents.specs.Stored.{GoesSo, DataGoesTo}

module _ (v : Extent) (t : Tables) where
  -- the ask of the next step is answered
  pub goes_one_more : (first : Moved) (came : List Exchange) (ask : Ask) (moving : DataMoving) (reply : Reply) → DataGoesTo v t first came (Asks ask moving) → Answers ask reply → DataGoesTo v t first (came ++ (ask, reply) ∷ []) (moves_on v t moving reply)
  goes_one_more first [] ask moving reply goes kind = subst (λ (x : Moved). DataGoesTo v t x ((ask, reply) ∷ []) (moves_on v t moving reply)) (sym goes) (refl, kind, refl)
  goes_one_more (Ends is) (e ∷ came) ask moving reply goes kind = absurd goes
  goes_one_more (Asks its other) (e ∷ came) ask moving reply goes kind = (goes.0, goes.1, goes_one_more (moves_on v t other e.1) came ask moving reply goes.2 kind)

  -- the call ends
  pub goes_to_end : (first : Moved) (came : List Exchange) (answer : CallAnswer) → DataGoesTo v t first came (Ends answer) → GoesSo v t first came answer
  goes_to_end (Ends is) [] answer goes = same_end is answer goes
    where
      same_end : (is answer : CallAnswer) → ◌≡◌ {A = Moved} (Ends is) (Ends answer) → is ≡ answer
      same_end is answer same = cc
  goes_to_end (Asks ask moving) [] answer goes = absurd (no_end ask moving answer goes)
    where
      no_end : (ask : Ask) (moving : DataMoving) (answer : CallAnswer) → ◌≡◌ {A = Moved} (Asks ask moving) (Ends answer) → ⊥
      no_end ask moving answer same = absurd (cc)
  goes_to_end (Ends is) (e ∷ came) answer goes = absurd goes
  goes_to_end (Asks ask moving) (e ∷ came) answer goes = (goes.0, goes.1, goes_to_end (moves_on v t moving e.1) came answer goes.2)
