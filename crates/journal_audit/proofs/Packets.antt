-- A capture's packets have IP's protocols and Ethernet's headers, and so has each that arrives.
use Rattle.std.proofs.Common.{◌≡◌, ◌≤◌, ◌∙◌, ℕ, ◌+◌, List, [], ◌∷◌, ◌++◌, length, take, Bool, true}
use Rattle.std.proofs.Common.{false, Option, Some, None, cond, refl, ap, arith}
use Rattle.std.specs.Prelude.{◌==◌, ◌&&◌, nat_le, IfSome, option_map, option_to_list}
use Rattle.std.specs.List.{AllByRecursion}
use Rattle.std.proofs.lemmas.Bool.{and_from, leb-true}
use Rattle.std.proofs.lemmas.List.{length-take}
use Rattle.packet_entry.specs.Numbers.{ipv4_type, ipv6_type, ethernet_header_length}
use Rattle.packet_entry.specs.Numbers.{tagged_header_length}
use Rattle.packet_entry.specs.declared.packet.Card.{Card}
use Rattle.ip_fields.specs.declared.frame.LinkCut.{LinkCut}
use Rattle.ip_fields.specs.Frame.{cut, cut_of, ethernet_cut, ethernet_type, is_ip_type, raw_cut}
use Rattle.ip_fields.specs.Frame.{tagged_type}
use Rattle.ip_fields.specs.Numbers.{ipv4_version, ipv6_version, link_ethernet, link_ipv4, link_ipv6}
use Rattle.ip_fields.specs.Numbers.{link_raw, vlan_type}
use Rattle.ip_fields.specs.Packet.{version_of}
use Rattle.pcap_io.specs.declared.capture.Capture.{Capture}
use Rattle.pcap_io.specs.declared.capture.Frame.{Frame}
use Rattle.nfqa_msgs.specs.declared.request.Request.TheVariants.{Config, Verdict, Batch}
use Rattle.queue_core.specs.declared.event.Event.{Event}
use Rattle.queue_core.specs.declared.event.Event.TheVariants.{Arrive, Ask, PortClosed, DeviceDown}
use Rattle.histories.specs.declared.entry.Entry.{Entry}
use Rattle.fate_ledger.specs.Origins.{IsKept, Asks, AllAsk, Arrives, AllArrive}
use Rattle.run_parts.specs.Entering.{card_at, cards_from}
use Rattle.log_audit.specs.Stays.{ArePackets, IsPackets, is_link_length, is_packets, is_protocol}

-- ---- where a packet starts in its frame

record IsStart (frame : List ℕ) (c : LinkCut) : Type 0 where
  header : is_link_length c.length ≡ true
  within : c.length ≤ length frame
  protocol : is_protocol c.protocol ≡ true

abbrev Starts : List ℕ → Option LinkCut → Type 0
Starts frame o = IfSome o (IsStart frame)

either : {X : Type 0} (P : X → Type 0) (b : Bool) (s t : X) → P s → P t → P (cond b s t)
either P true s t h k = h
either P false s t h k = k

first_of : (a b : Bool) → (a && b) ≡ true → a ≡ true
first_of true b h = refl
first_of false b h = absurd cc

second_of : (a b : Bool) → (a && b) ≡ true → b ≡ true
second_of true b h = h
second_of false b h = absurd cc

ethernet_by : (frame : List ℕ) (b c : Bool) →
    (nat_le ethernet_header_length (length frame) && is_ip_type (ethernet_type frame)) ≡ b →
    (nat_le tagged_header_length (length frame) && (ethernet_type frame == vlan_type)
    && is_ip_type (tagged_type frame)) ≡ c →
    Starts frame (cond b (cut ethernet_header_length (ethernet_type frame))
    (cond c (cut tagged_header_length (tagged_type frame)) None))
ethernet_by frame true c one other = record {
  header = refl;
  within = leb-true ethernet_header_length (length frame) (first_of _ _ one);
  protocol = second_of _ _ one;
}
ethernet_by frame false true one other = record {
  header = refl;
  within = leb-true tagged_header_length (length frame) (first_of _ _ (first_of _ _ other));
  protocol = second_of _ _ other;
}
ethernet_by frame false false one other = tt

whole : (frame : List ℕ) (kind : ℕ) → is_protocol kind ≡ true → Starts frame (cut 0 kind)
whole frame kind is = record { header = refl; within = omega arith; protocol = is }

raw : (frame : List ℕ) → Starts frame (raw_cut frame)
raw frame =
    either (Starts frame) (length frame == 0) None _ tt
    (either (Starts frame) (version_of frame == ipv4_version) (cut 0 ipv4_type) _
    (whole frame ipv4_type refl)
    (either (Starts frame) (version_of frame == ipv6_version) (cut 0 ipv6_type) None
    (whole frame ipv6_type refl) tt))

starts : (link : ℕ) (frame : List ℕ) → Starts frame (cut_of link frame)
unfolding cut_of
starts link frame =
    either (Starts frame) (link == link_ethernet) (ethernet_cut frame) _
    (ethernet_by frame _ _ refl refl)
    (either (Starts frame) (link == link_raw) (raw_cut frame) _ (raw frame)
    (either (Starts frame) (link == link_ipv4) (cut 0 ipv4_type) _ (whole frame ipv4_type refl)
    (either (Starts frame) (link == link_ipv6) (cut 0 ipv6_type) None
    (whole frame ipv6_type refl) tt)))

-- ---- the packets of frames

is_one : (c : Capture) (number : ℕ) (f : Frame) (l : LinkCut) → IsStart f.bytes l →
    is_packets (card_at c number f l) ≡ true
is_one c number f l start =
    and_from _ _ start.protocol (ap is_link_length whole_header ∙ start.header)
  where
    whole_header : length (take l.length f.bytes) ≡ l.length
    whole_header =
        let taken = length-take l.length f.bytes in
        omega (arith, taken, start.within)

abbrev Holds : Card → Type 0
Holds card = is_packets card ≡ true

pub are_all : (c : Capture) (number : ℕ) (fs : List Frame) →
    AllByRecursion Holds (cards_from c number fs)
are_all c number [] = tt
are_all c number (f ∷ fs) =
    by (cards_from c (number + 1) fs) (cut_of c.link f.bytes) (starts c.link f.bytes)
    (are_all c (number + 1) fs)
  where
    by : (rest : List Card) (o : Option LinkCut) → Starts f.bytes o →
        AllByRecursion Holds rest →
        AllByRecursion Holds (option_to_list (option_map (card_at c number f) o) ++ rest)
    by rest None start others = others
    by rest (Some l) start others = (is_one c number f l start, others)

-- ---- the packets that arrive

-- no edit changes a protocol or a header, whatever its payload
abbrev pub any_bytes : List ℕ → Bool
any_bytes bytes = true

pub packets_kept : IsKept is_packets (λ bytes. any_bytes bytes ≡ true)
packets_kept = record {
  edits = λ c mark payload priority is given. is;
  moves = λ c visit table. refl;
}

any_payload : (payload : Option (List ℕ)) → IfSome payload (λ bytes. any_bytes bytes ≡ true)
any_payload None = tt
any_payload (Some bytes) = refl

asks_any : (event : Event) → Asks (λ bytes. any_bytes bytes ≡ true) event
asks_any (Arrive card bypass room) = tt
asks_any (Ask port call (Config queue command params maximum flags mask)) = tt
asks_any (Ask port call (Verdict queue head mark payload priority)) = any_payload payload
asks_any (Ask port call (Batch queue head mark priority)) = tt
asks_any (PortClosed port) = tt
asks_any (DeviceDown device) = tt

pub all_ask_any : (es : List Entry) → AllAsk (λ bytes. any_bytes bytes ≡ true) es
all_ask_any [] = tt
all_ask_any (e ∷ es) = (asks_any e.event, all_ask_any es)

pub are_packets : (es : List Entry) → AllArrive is_packets es → ArePackets es
are_packets [] all = tt
are_packets (e ∷ es) all = (by e.event all.0, are_packets es all.1)
  where
    by : (event : Event) → Arrives is_packets event → IsPackets event
    by (Arrive card bypass room) is = is
    by (Ask port call request) is = tt
    by (PortClosed port) is = tt
    by (DeviceDown device) is = tt
