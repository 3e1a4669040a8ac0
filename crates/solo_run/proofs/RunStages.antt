-- The parts of a run, port by port, line by line and frame by frame.
use Rattle.std.proofs.Common.{◌≡◌, ◌≢◌, ◌<◌, ◌≤◌, ◌+◌, ◌∙◌, ℕ}
use Rattle.std.proofs.Common.{List, ◌∷◌, ◌++◌, length, drop, Option}
use Rattle.std.proofs.Common.{Some, None, sym, ap, arith, append_assoc}
use Rattle.std.specs.Prelude.{AllPairs, option_to_list}
use Rattle.std.proofs.lemmas.List.{drop_more, length-append}
use Rattle.packet_entry.specs.declared.packet.Card.{Card}
use Rattle.pcap_io.specs.declared.capture.Capture.{Capture}
use Rattle.pcap_io.specs.declared.capture.Frame.{Frame}
use Rattle.script_lines.specs.declared.ask.Ask.{Ask}
use Rattle.inspector_script.specs.Scripts.{ScriptValue, opening, closing}
use Rattle.packet_moves.specs.declared.setting.Setting.{Setting}
use Rattle.packet_moves.specs.World.{World}
use Rattle.run_parts.specs.Entering.{card_of, cards_from}
use Rattle.solo_schedule.specs.Schedule.{opened_all, ended_all, emptied_in}
use Rattle.solo_schedule.specs.Sending.{all_done}
use Rattle.solo_run.specs.RunState.{AreOpen, KeepsBut, port_at}
use Rattle.solo_run.proofs.RunProgress.{ports_apart}

pub opened_on : (s : Setting) (script : ScriptValue) (place : ℕ) (asks : List Ask)
    (w after : World) →
    place < length script.ports → asks ≡ opening script place →
    after ≡ all_done (λ v. v) s (port_at script place) asks w →
    opened_all s script (place + 1) (drop (place + 1) script.ports) after
    ≡ opened_all s script place (drop place script.ports) w
opened_on s script place asks w after within are did =
    ap (opened_all s script (place + 1) (drop (place + 1) script.ports))
    (did ∙ ap (λ (l : List Ask). all_done (λ v. v) s (port_at script place) l w) are)
    ∙ sym (ap (λ (ps : List ℕ). opened_all s script place ps w)
    (drop_more script.ports place 0 within))

pub ended_on : (rounds : ℕ) (s : Setting) (script : ScriptValue) (place : ℕ) (asks : List Ask)
    (w after : World) → place < length script.ports → asks ≡ closing script place →
    after ≡ all_done (λ v. emptied_in rounds s script v) s (port_at script place) asks w →
    ended_all rounds s script (place + 1) (drop (place + 1) script.ports) after
    ≡ ended_all rounds s script place (drop place script.ports) w
ended_on rounds s script place asks w after within are did =
    ap (ended_all rounds s script (place + 1) (drop (place + 1) script.ports))
    (did ∙ ap (λ (l : List Ask).
    all_done (λ v. emptied_in rounds s script v) s (port_at script place) l w) are)
    ∙ sym (ap (λ (ps : List ℕ). ended_all rounds s script place ps w)
    (drop_more script.ports place 0 within))

pub later_open : (script : ScriptValue) (place : ℕ) (old new : World) →
    AllPairs (λ p q. p ≢ q) script.ports → place < length script.ports → AreOpen script old place →
    KeepsBut (port_at script place) old new → AreOpen script new (place + 1)
later_open script place old new apart within are keeps k later k_in =
    keeps.open_ports (port_at script k)
    (ports_apart script apart k place k_in within (λ same. omega (arith, later, same)))
    ∙ are k (omega (arith, later)) k_in

-- ---- frames

option_length : {X : Type 0} (o : Option X) → length (option_to_list o) ≤ 1
option_length None = omega arith
option_length (Some x) = omega arith

pub fed_more : (c : Capture) (number : ℕ) (f : Frame) (fs : List Frame) (old new : List Card) →
    new ≡ old ++ option_to_list (card_of c number f) →
    new ++ cards_from c (number + 1) fs ≡ old ++ cards_from c number (f ∷ fs)
fed_more c number f fs old new is =
    ap (λ (l : List Card). l ++ cards_from c (number + 1) fs) is
    ∙ append_assoc old (option_to_list (card_of c number f)) (cards_from c (number + 1) fs)

pub few_more : (c : Capture) (number : ℕ) (f : Frame) (old new : List Card) →
    new ≡ old ++ option_to_list (card_of c number f) → length old + 1 ≤ number →
    length new + 1 ≤ number + 1
few_more c number f old new is few =
    let all : length new ≡ length (old ++ option_to_list (card_of c number f)) =
    ap (λ (l : List Card). length l) is in
    omega (
      arith,
      all,
      length-append old (option_to_list (card_of c number f)),
      option_length (card_of c number f),
      few,
    )
