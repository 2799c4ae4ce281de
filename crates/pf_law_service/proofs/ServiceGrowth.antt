-- What each step of a service leaves as it was: its groups' histories go on, and nothing of an earlier epoch is taken back.
use Rattle.std.proofs.Common.{◌≡◌, ℕ, suc, pred, zero, ◌<◌, ◌≤◌, true, false, if◌then◌else◌, List, ◌++◌, length, arith, refl, sym, ap, subst}
use Rattle.std.proofs.lemmas.Bool.{false≢true}
use Rattle.pf_base.specs.declared.asks.Ask.{Ask}
use Rattle.pf_entry.proofs.Cases.{by_test}
use Rattle.pf_protocol.specs.Answers.{IsLegal}
use Rattle.pf_protocol.specs.Histories.{History, IsPrefix}
use Rattle.pf_protocol.specs.Servers.{Setup}
use Rattle.pf_protocol.proofs.ForMoments.{legal_before, whole_prefix}
use Rattle.pf_asks.specs.Ports.{PortIs}
use Rattle.pf_law_positions.specs.Deeds.{Deed}
use Rattle.pf_law_ports.specs.Calls.{PortPast}
use Rattle.pf_law_service.specs.Served.{AreLegal, Asks, Grows, Hands, Hears, ChunkIsServed, Moves, Opens, Passes, Switches}
use Rattle.pf_law_service.specs.Services.{Service, service_asked, service_grown, service_moved, epoch_of_now, service_stepped, service_switched}
use Rattle.pf_law_service.proofs.Places.{but_each, but_grows, but_off}

-- The epoch that serves

low_pred : (n : ℕ) → pred n ≤ n
low_pred zero = omega arith
low_pred (suc n) = omega arith

low_itself : (n : ℕ) → n ≤ n
low_itself n = omega arith

pub serving_low : (s : Service) → epoch_of_now s ≤ s.epoch
serving_low s = by_test s.moving (λ b. (if b then pred s.epoch else s.epoch) ≤ s.epoch) (λ _. low_pred s.epoch) (λ _. low_itself s.epoch)

pub serving_now : (s : Service) → s.moving ≡ false → epoch_of_now s ≡ s.epoch
serving_now s is = ap (λ b. if b then pred s.epoch else s.epoch) is

pub serving_before : (s : Service) → s.moving ≡ true → epoch_of_now s ≡ pred s.epoch
serving_before s is = ap (λ b. if b then pred s.epoch else s.epoch) is

-- only a chunk that was moved is moving
pub moved_once : (chunk : ℕ) (s : Service) (ds : List Deed) → ChunkIsServed chunk s ds → s.moving ≡ true → 0 < s.epoch
moved_once chunk _ _ (Opens setup history) is = absurd (false≢true is)
moved_once chunk _ _ (Grows s ds epoch more served) is = moved_once chunk s ds served is
moved_once chunk _ _ (Passes s ds served) is = moved_once chunk s ds served is
moved_once chunk _ _ (Asks s ds mount client ask of at none served) is = moved_once chunk s ds served is
moved_once chunk _ _ (Hands s ds mount owed new next step one served) is = moved_once chunk s ds served is
moved_once chunk _ _ (Hears s ds mount owed reply answer next step by served) is = moved_once chunk s ds served is
moved_once chunk _ _ (Moves s ds setup history rests served) is = omega arith
moved_once chunk _ _ (Switches s ds moving served) is = absurd (false≢true is)

-- What is left as it was

pub record Goes (s after : Service) : Type 0 where
  pub epochs : s.epoch ≤ after.epoch
  pub serves : epoch_of_now s ≤ epoch_of_now after
  pub setup : (e : ℕ) → e ≤ s.epoch → after.setup e ≡ s.setup e
  pub history : (e : ℕ) → e ≤ s.epoch → IsPrefix (s.history e) (after.history e)
  pub since : (e : ℕ) → e ≤ epoch_of_now s → after.since e ≡ s.since e
  pub left : (e by : ℕ) → e ≤ s.epoch → e < after.epoch → by ≤ length (s.history e) → (e < s.epoch → by ≤ s.left e) → by ≤ after.left e

pub stays_so : (s : Service) → Goes s s
stays_so s = record {
  epochs = omega arith;
  serves = omega arith;
  setup = λ e low. refl;
  history = λ e low. whole_prefix (s.history e);
  since = λ e low. refl;
  left = λ e by low before within so. so before;
}

pub grown_goes : (s : Service) (epoch : ℕ) (more : History) → Goes s (service_grown s epoch more)
grown_goes s epoch more = record {
  epochs = omega arith;
  serves = omega arith;
  setup = λ e low. refl;
  history = λ e low. but_grows s.history epoch (s.history epoch ++ more) e (record { rest = more; whole = refl });
  since = λ e low. refl;
  left = λ e by low before within so. so before;
}

pub asked_goes : (s : Service) (mount client moment : ℕ) (ask : Ask) → Goes s (service_asked s mount client moment ask)
asked_goes s mount client moment ask = record {
  epochs = omega arith;
  serves = omega arith;
  setup = λ e low. refl;
  history = λ e low. whole_prefix (s.history e);
  since = λ e low. refl;
  left = λ e by low before within so. so before;
}

pub stepped_goes : (s : Service) (mount : ℕ) (new : PortPast) (next : PortIs) → IsPrefix (s.history s.epoch) new.history → Goes s (service_stepped s mount new next)
stepped_goes s mount new next more = record {
  epochs = omega arith;
  serves = omega arith;
  setup = λ e low. refl;
  history = λ e low. but_grows s.history s.epoch new.history e more;
  since = λ e low. refl;
  left = λ e by low before within so. so before;
}

pub moved_goes : (s : Service) (setup : Setup) (history : History) → s.moving ≡ false → Goes s (service_moved s setup history)
moved_goes s setup history rests =
    let now = serving_now s rests in
    record {
      epochs = omega arith;
      serves = omega (arith, now);
      setup = λ e low. but_off s.setup (suc s.epoch) setup e (λ is. omega (arith, is, low));
      history = λ e low. subst (IsPrefix (s.history e)) (sym (but_off s.history (suc s.epoch) history e (λ is. omega (arith, is, low)))) (whole_prefix (s.history e));
      since = λ e low. refl;
      left = λ e by low before within so. but_each (λ n. by ≤ n) s.left s.epoch (length (s.history s.epoch)) e
          (λ is. subst (λ k. by ≤ length (s.history k)) is within)
          (λ apart. so (omega (arith, low, apart)));
    }

pub switched_goes : (s : Service) → s.moving ≡ true → 0 < s.epoch → Goes s (service_switched s)
switched_goes s moving some =
    let was = serving_before s moving in
    record {
      epochs = omega arith;
      serves = serving_low s;
      setup = λ e low. refl;
      history = λ e low. whole_prefix (s.history e);
      since = λ e low. but_off s.since s.epoch (length (s.history s.epoch)) e (λ is. omega (arith, is, low, was, some));
      left = λ e by low before within so. so before;
    }

-- the groups were legal before, too
pub legal_then : (s after : Service) → Goes s after → AreLegal after → AreLegal s
legal_then s after goes legal = λ e low.
    let epochs = goes.epochs in
    legal_before (s.setup e) (s.history e) (after.history e) (goes.history e low) (subst (λ (z : Setup). IsLegal z (after.history e)) (goes.setup e low) (legal e (omega (arith, epochs, low))))
