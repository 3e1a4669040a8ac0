-- A plane that opens: nothing has happened, and its passes have together the whole of each lock.
use Rattle.std.proofs.Common.{◌≡◌, ◌<◌, ℕ, zero, suc, List, [], ◌∷◌, length, refl, sym, ap}
use Rattle.std.proofs.Common.{◌∙◌, subst, arith, append-nil, inl, inr}
use Rattle.std.specs.Prelude.{map, slice_get, Option, Some, IfSome, IsSome, ◌↔◌}
use Rattle.std.specs.BTreeMap.{BTreeMap, get}
use Rattle.std.specs.Ordering.{nat_cmp}
use Rattle.glance.specs.Views.{PassView, opening_pass}
use Rattle.mailbox.specs.Roles.{In}
use Rattle.mailbox.specs.Views.{MailboxView, ReceiverView}
use Rattle.packet_entry.specs.declared.packet.Card.{Card}
use Rattle.histories.specs.declared.histories.Lost.{Lost}
use Rattle.packet_moves.specs.declared.setting.Setting.{Setting}
use Rattle.turn_lock.specs.Parts.{Whole}
use Rattle.locked_place.specs.Views.{label_of}
use Rattle.place_rows.specs.declared.ending.PortReceiver.{PortReceiver}
use Rattle.place_rows.specs.declared.opening.Dealt.{Dealt}
use Rattle.place_rows.specs.Joining.{part_in, AreWhole}
use Rattle.place_rows.specs.Lists.{Every}
use Rattle.place_rows.specs.Opening as row
use Rattle.place_rows.specs.Rows.{Known, AreKnown, label_at}
use Rattle.place_rows.specs.Shares.{IsBalanced}
use Rattle.plane.specs.declared.plane.Plane.{Plane}
use Rattle.plane.specs.Closings.{receiver_of}
use Rattle.plane.specs.Filling.{HasDoneNothing, HasUnused, IsUnheard}
use Rattle.plane.specs.Opening.{IsNew, IsOpened, IsUnused, known_in}
use Rattle.plane.specs.Passes.{FeederView, PortView, IsFeederOf, IsPortOf}
use Rattle.plane.specs.Planes.{setting_of, order_of, outlets_of, board_of, locks_of, places_of}
use Rattle.plane.specs.Remaining.{IsRowOf}
use Rattle.plane.proofs.RowSplits.{both_none}

-- a row that has appended nothing is balanced
abbrev pub Begins : Type 0
Begins = (s : Setting) (known : List Known) →
    ((k : ℕ) (v : Known) → slice_get known k ≡ Some v → (v.seen ≡ []) × (v.own ≡ [])) →
    IsBalanced s [] known []

-- ---- the first row

pub first_unused : (known : List Known) → row.AreFirst known → Every IsUnused known
first_unused [] all = tt
first_unused (v ∷ known) all =
    (record { seen = all.0.none_seen; own = all.0.none_own }, first_unused known all.1)

first_parts : (known : List Known) → row.AreFirst known → (k : ℕ) → k < length known →
    part_in (slice_get known k) ≡ Whole
first_parts [] all k few = absurd (omega (arith, few))
first_parts (v ∷ known) all zero few = all.0.whole
first_parts (v ∷ known) all (suc k) few = first_parts known all.1 k (omega (arith, few))

pub first_whole : (places : ℕ) (known : List Known) → row.AreFirst known →
    length known ≡ places → AreWhole places (known ∷ [])
first_whole places known all many = λ k few. first_parts known all k (omega (arith, few, many))

-- ---- receivers

pub all_unheard : (mail : ℕ) (d : Dealt) (rs : List PortReceiver) →
    Every (row.IsOpened mail d.mailboxes) rs → Every IsUnheard rs
all_unheard mail d [] all = tt
all_unheard mail d (r ∷ rs) all = (all.0.nothing_yet, all_unheard mail d rs all.1)

all_have : (mail : ℕ) (d : Dealt) (rs : List PortReceiver) →
    Every (row.IsOpened mail d.mailboxes) rs → (port : ℕ) → In port (map row.port_of rs) →
    IsSome (get nat_cmp d.mailboxes port)
all_have mail d [] all port is = absurd is
all_have mail d (r ∷ rs) all port (inl same) =
    subst (λ (o : Option MailboxView). IsSome o)
    (sym (ap (get nat_cmp d.mailboxes) same ∙ all.0.mailbox)) refl
all_have mail d (r ∷ rs) all port (inr is) = all_have mail d rs all.1 port is

-- the ports that were dealt to, and no others, have a mailbox
pub dealt_for : (places mail : ℕ) (ports : List ℕ) (d : Dealt) → row.IsDealt places mail ports d →
    (port : ℕ) → IsSome (get nat_cmp d.mailboxes port) ↔ In port ports
dealt_for places mail ports d dealt port = (
  dealt.no_others port,
  λ is. all_have mail d d.receivers.items dealt.opened port
      (subst (In port) (sym dealt.ports_are) is),
)

ports_by_receivers : (ps : List PortView) →
    map (λ (p : PortView). p.port) ps ≡ map row.port_of (map receiver_of ps)
ports_by_receivers [] = refl
ports_by_receivers (p ∷ ps) = ap (λ (l : List ℕ). p.port ∷ l) (ports_by_receivers ps)

-- ---- ports

port_opened : Begins → (plane : Plane) (mail : ℕ) (p : PortView) →
    IsRowOf (locks_of plane) (label_at (outlets_of plane)) p → HasUnused p → HasDoneNothing p →
    row.IsOpened mail (outlets_of plane).mailboxes (receiver_of p) → IsPortOf plane p
port_opened begins plane mail p is unused nothing opened = record {
  of = record { locks_are = is.locks_are; as_many = is.as_many; known_so = is.known_so };
  balanced = subst (λ (lost : List Lost). IsBalanced (setting_of plane) [] p.trail.known lost)
      (sym nothing.lost)
      (begins (setting_of plane) p.trail.known (both_none p.trail.known unused));
  mailbox = opened.mailbox;
  alone = (
    ap (λ (r : ReceiverView). r.joined) nothing.receiver,
    ap (λ (r : ReceiverView). r.full) nothing.receiver,
  );
  unmailed = ap (λ (r : ReceiverView). r.mails) nothing.receiver;
}

ports_opened : Begins → (plane : Plane) (mail : ℕ) (ps : List PortView) →
    Every (IsRowOf (locks_of plane) (label_at (outlets_of plane))) ps → Every HasUnused ps →
    Every HasDoneNothing ps →
    Every (row.IsOpened mail (outlets_of plane).mailboxes) (map receiver_of ps) →
    Every (IsPortOf plane) ps × Every IsNew ps
ports_opened begins plane mail [] rows unused nothing opened = (tt, tt)
ports_opened begins plane mail (p ∷ ps) rows unused nothing opened =
    let rest = ports_opened begins plane mail ps rows.1 unused.1 nothing.1 opened.1 in (
      (port_opened begins plane mail p rows.0 unused.0 nothing.0 opened.0, rest.0),
      (
        record {
          known = unused.0;
          lost = nothing.0.lost;
          dids = nothing.0.dids;
          receiver = nothing.0.receiver;
        },
        rest.1,
      ),
    )

feeder_opened : Begins → (plane : Plane) (p : FeederView) → p.locks ≡ locks_of plane →
    length p.trail.known ≡ length p.locks →
    AreKnown label_of (label_at (outlets_of plane)) p.trail.known → p.fed ≡ [] →
    p.trail.lost ≡ [] → Every IsUnused p.trail.known → IsFeederOf plane p
feeder_opened begins plane p locks many known none_fed none_lost unused = record {
  of = record { locks_are = locks; as_many = many; known_so = known };
  balanced = subst (λ (fed : List Card). IsBalanced (setting_of plane) fed p.trail.known
      p.trail.lost) (sym none_fed)
      (subst (λ (lost : List Lost). IsBalanced (setting_of plane) [] p.trail.known lost)
      (sym none_lost)
      (begins (setting_of plane) p.trail.known (both_none p.trail.known unused)));
}

-- ---- all of it

pub opened_so : Begins → (places : ℕ) (order : List ℕ) (s : Setting) (plane : Plane)
    (feeder : FeederView) (ports : List PortView) (gauge : PassView) (d : Dealt) →
    setting_of plane ≡ s → order_of plane ≡ order → places_of plane ≡ places →
    d.mailboxes ≡ (outlets_of plane).mailboxes → row.IsDealt places s.mail order d →
    feeder.locks ≡ locks_of plane → length feeder.trail.known ≡ length feeder.locks →
    AreKnown label_of (label_at (outlets_of plane)) feeder.trail.known → feeder.fed ≡ [] →
    feeder.trail.lost ≡ [] → Every IsUnused feeder.trail.known →
    Every (IsRowOf (locks_of plane) (label_at (outlets_of plane))) ports →
    Every HasUnused ports → Every HasDoneNothing ports →
    map receiver_of ports ≡ d.receivers.items →
    AreWhole places (feeder.trail.known ∷ map known_in ports) →
    gauge ≡ opening_pass (board_of plane) →
    IsOpened places order s plane feeder ports gauge
opened_so begins places order s plane feeder ports gauge d setting order_is many outlets dealt
    locks rowed known none_fed none_lost unused rows ports_unused nothing receivers whole looks =
    let opened =
    subst (λ (ms : BTreeMap ℕ MailboxView). Every (row.IsOpened s.mail ms) (map receiver_of ports))
    outlets
    (subst (Every (row.IsOpened s.mail d.mailboxes)) (sym receivers) dealt.opened) in
    let both = ports_opened begins plane s.mail ports rows ports_unused nothing opened in
    record {
      setting = setting;
      order_is = order_is;
      as_many = many;
      feeds = feeder_opened begins plane feeder locks rowed known none_fed none_lost
          unused;
      none_fed = none_fed;
      none_lost = none_lost;
      none_known = unused;
      ports_are = ports_by_receivers ports ∙ ap (map row.port_of) receivers ∙ dealt.ports_are;
      each = both.0;
      new = both.1;
      capacity = λ port.
          subst (λ (ms : BTreeMap ℕ MailboxView). IfSome (get nat_cmp ms port) (row.Holds s.mail))
          outlets (dealt.holds port);
      whole = subst (λ (l : List (List Known)). AreWhole places (feeder.trail.known ∷ l))
          (sym (append-nil (map known_in ports))) whole;
      looks = looks;
    }
