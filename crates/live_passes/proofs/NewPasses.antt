-- The passes that a plane is opened with: all of them are new.
use Rattle.std.proofs.Common.{◌∙◌, ◌∷◌, ◌≡◌, ◌⊎◌, List, [], ap}
use Rattle.std.proofs.Common.{append-nil, arith, false, inl, inr, map, refl, subst, suc, sym}
use Rattle.std.proofs.Common.{true, zero, ℕ}
use Rattle.std.proofs.lemmas.Bool.{cases_Bool}
use Rattle.std.specs.BTreeMap.{get}
use Rattle.std.specs.List.{list_any}
use Rattle.std.specs.Ordering.{nat_cmp}
use Rattle.std.specs.Prelude.{◌==◌, IfSome, nat_eq}
use Rattle.glance.specs.Views.{PassView}
use Rattle.mailbox.specs.Roles.{AreDistinct}
use Rattle.mailbox.specs.Views.{MailboxView}
use Rattle.packet_moves.specs.declared.setting.Setting.{Setting}
use Rattle.place_rows.specs.Joining.{AreWhole}
use Rattle.place_rows.specs.Lists.{Every}
use Rattle.place_rows.specs.Rows.{Known}
use Rattle.plane.specs.Opening.{IsNew as IsNewPort, IsOpened, IsUnused, all_rows}
use Rattle.plane.specs.Passes.{FeederView, PortView}
use Rattle.plane.specs.Planes.{outlets_of}
use Rattle.plane.specs.Remaining.{times_in}
use Rattle.plane.specs.declared.plane.Plane.{Plane}
use Rattle.live_runs.specs.Locks.{marked}
use Rattle.live_runs.specs.Meetings.{IsNew}
use Rattle.live_runs.specs.Passes.{feeder_number, is_pass}
use Rattle.live_passes.specs.Numbered.{AreAll, numbers_of, passes_in}
use Rattle.live_passes.specs.Views.{shares_of}
use Rattle.live_passes.proofs.PortOccurrences.{Found, all_self, found, times_none, times_once}

unused_share : (known : List Known) → Every IsUnused known → (k : ℕ) → shares_of known k ≡ []
unused_share [] all k = refl
unused_share (v ∷ known) all zero =
    ap (λ own. marked own v.seen) all.0.own ∙ ap (marked []) all.0.seen
unused_share (v ∷ known) all (suc k) = unused_share known all.1 k

-- a number of a pass that isn't the feeder's is a port's
pub port_number : (order : List ℕ) (p : ℕ) → is_pass order p ≡ true →
    (p == feeder_number) ≡ false → list_any (nat_eq p) order ≡ true
port_number order p is other = rw other at is

module _ (places : ℕ) (order : List ℕ) (s : Setting) (plane : Plane) (feeder : FeederView)
    (ports : List PortView) (gauge : PassView) (apart : AreDistinct order)
    (o : IsOpened places order s plane feeder ports gauge) where
  numbers : numbers_of ports ≡ order
  numbers = o.ports_are

  once : (port : ℕ) → list_any (nat_eq port) order ≡ true → times_in port ports ≡ 1
  once port is = times_once port ports (subst AreDistinct (sym numbers) apart)
      (ap (list_any (nat_eq port)) numbers ∙ is)

  none : (port : ℕ) → list_any (nat_eq port) order ≡ false → times_in port ports ≡ 0
  none port is = times_none port ports (ap (list_any (nat_eq port)) numbers ∙ is)

  pub opened_all : list_any (nat_eq feeder_number) order ≡ false → AreAll plane feeder ports []
  opened_all no_feeder = record {
    set_up = record {
      no_feeder = ap (list_any (nat_eq feeder_number)) o.order_is ∙ no_feeder;
      capacity = λ port. subst (λ (t : Setting).
          IfSome (get nat_cmp (outlets_of plane).mailboxes port)
          (λ (m : MailboxView). m.capacity ≡ t.mail)) (sym o.setting) (o.capacity port);
    };
    feeds = o.feeds;
    speak = o.each;
    spoke = tt;
    each = λ port is. ap (times_in port) (append-nil ports)
        ∙ once port (sym (ap (list_any (nat_eq port)) o.order_is) ∙ is);
    nobody = λ port is. ap (times_in port) (append-nil ports)
        ∙ none port (sym (ap (list_any (nat_eq port)) o.order_is) ∙ is);
    whole = subst (λ n. AreWhole n (all_rows feeder ports [])) (sym o.as_many) o.whole;
  }

  new_port : (port : ℕ) → list_any (nat_eq port) order ≡ true →
      Found (λ o n. (n ≡ o) × IsNewPort o) port ports ports
  new_port port is = found (λ o n. (n ≡ o) × IsNewPort o)
      (λ o n so. ap (λ (p : PortView). p.port) so.0) port ports ports
      (all_self IsNewPort ports o.new) (omega (arith, once port is))

  pub opened_new : (p : ℕ) → is_pass order p ≡ true → IsNew (passes_in feeder ports p)
  opened_new p is = by (cases_Bool (p == feeder_number))
    where
      by : ((p == feeder_number) ≡ true) ⊎ ((p == feeder_number) ≡ false) →
          IsNew (passes_in feeder ports p)
      by (inl h) = rw h (record {
        dids = refl;
        letters = refl;
        shares = unused_share feeder.trail.known o.none_known;
      })
      by (inr h) =
          let f = new_port p (port_number order p is h) in
          let n = f.so.1 in
          rw h (subst IsNew (sym f.had) (record {
            dids = n.dids;
            letters = ap (λ r. map (λ post. post.letter) r.received) n.receiver;
            shares = unused_share f.old.trail.known n.known;
          }))
