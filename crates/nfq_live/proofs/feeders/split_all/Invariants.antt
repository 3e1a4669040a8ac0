use Rattle.std.proofs.Common.{◌≡◌, ◌+◌, ℕ, length}
use Rattle.place_rows.specs.Lists.{Every}
use Rattle.plane.specs.Passes.{IsFeederOf}
use Rattle.live_work.specs.Feeding.{shares_in}
use Rattle.nfq_live.specs.Feeders.{HaveItsParts, IsHelper}
use Rattle.nfq_live.proofs.feeders.split_all.Given as goal

abbrev pub invariant-loop-number : goal.invariant-loop-number
invariant-loop-number l = record {
  pass : IsFeederOf l.plane l.pass;
  helpers : Every (IsHelper l.plane (shares_in l.initial.pass)) l.helpers.items;
  parts : HaveItsParts l.pass l.helpers.items l.initial.pass;
  fed : l.pass.fed ≡ l.initial.pass.fed;
  seen : (k : ℕ) → shares_in l.pass k ≡ shares_in l.initial.pass k;
  count : length l.helpers.items + 1 ≡ l._number;
  room : l.helpers.cap ≡ l.initial.helpers.cap;
}
