-- What ports owe are asks of their script and messages that are known by their bytes.
use Rattle.std.proofs.Common.{◌≡◌, ℕ, List, [], ◌∷◌, ◌++◌, Option, Some, None, Bool}
use Rattle.std.proofs.Common.{true, false, cond, refl, sym, ap, ◌∙◌, subst, map, length, true≢false}
use Rattle.std.specs.Prelude.{All, IsSome, bytes_eq}
use Rattle.std.specs.List.{AllByRecursion}
use Rattle.std.proofs.lemmas.Bool.{le-leb}
use Rattle.std.proofs.lemmas.List.Elements.{recursion_from_All}
use Rattle.std.proofs.lemmas.Slice.Eq.{bytes_eq-Decides}
use Rattle.packet_entry.specs.Numbers.{longest_payload}
use Rattle.netlink_codec.specs.Messages.{NetlinkMessage}
use Rattle.nfqa_msgs.specs.declared.request.Request.{Request}
use Rattle.nfqa_msgs.specs.declared.request.Request.TheVariants.{Config, Verdict, Batch}
use Rattle.nfqa_msgs.specs.declared.request.Decoded.{Decoded}
use Rattle.nfqa_msgs.specs.declared.request.Decoded.TheVariants.{Nothing, Refused, Asked}
use Rattle.nfqa_msgs.specs.RequestReading.{AskedFits, PayloadFits, decoded}
use Rattle.nfqa_msgs.specs.RequestWriting.{spelling}
use Rattle.histories.specs.declared.log.AskWords.{AskWords}
use Rattle.histories.specs.declared.log.AskWords.TheVariants.{Plain, Raw}
use Rattle.histories.specs.declared.log.Did.{Did}
use Rattle.histories.specs.declared.histories.Histories.{Histories}
use Rattle.script_lines.specs.declared.ask.Ask as lines
use Rattle.script_lines.specs.declared.ask.Ask.TheVariants.{Words, Close}
use Rattle.script_lines.specs.Limits.{IsAsk, IsWords}
use Rattle.inspector_script.specs.Scripts.{ScriptValue, IsScript, opening, closing}
use Rattle.packet_moves.specs.Messages.{words_of}
use Rattle.packet_moves.specs.Calls.{next_call}
use Rattle.run_parts.specs.Datagrams.{AsksWell, messages_in, bytes_of}
use Rattle.run_parts.specs.Log.{Note, Got, Turned, Begun, Spoke, Shut, Due, Still, Message}
use Rattle.run_parts.specs.Log.{Standing}
use Rattle.run_parts.specs.Log.{all_due, start, after, first_due, owed_then, ends_then}
use Rattle.run_parts.specs.Log.{messages_of, IsNext, AreNextFrom, logged}
use Rattle.run_parts.specs.Log.{unanswered}
use Rattle.run_parts.specs.Ports.{log_of, place_in}
use Rattle.port_audit.specs.Makers.{HaveLogs}
use Rattle.port_audit.specs.Pleading.{told_by_words, IsToldByWords, AreToldByWords, message_in}
use Rattle.port_audit.specs.Pleading.{payload_fits}
use Rattle.port_audit.specs.Told.{AreTold, dids_in, dids_of}
use Rattle.port_audit.specs.AskLengths.{AllAsks, opening_asks, closing_asks, answer_good}
use Rattle.port_audit.proofs.MessageBytes.{IsKnown, all_known}

-- ---- what a port owes

abbrev IsDueWell : Due → Type 0
IsDueWell (Still ask) = IsAsk ask
IsDueWell (Message m) = IsKnown m × AsksWell m

abbrev AreWell : List Due → Type 0
AreWell ds = AllByRecursion IsDueWell ds

abbrev IsFirstWell : Option Due → Type 0
IsFirstWell None = Unit {0}
IsFirstWell (Some d) = IsDueWell d

record OwesWell (t : Standing) : Type 0 where
  pub owed : AreWell t.owed
  pub ends : AreWell t.ends

due_asks : (asks : List lines.Ask) → AllAsks asks → AreWell (all_due asks)
due_asks [] all = tt
due_asks (a ∷ asks) all = (all.0, due_asks asks all.1)

due_messages : (ms : List NetlinkMessage) → AllByRecursion IsKnown ms →
    AllByRecursion AsksWell ms → AreWell (map Message ms)
due_messages [] known asks = tt
due_messages (m ∷ ms) known asks = ((known.0, asks.0), due_messages ms known.1 asks.1)

both_well : (one two : List Due) → AreWell one → AreWell two → AreWell (one ++ two)
both_well [] two for_one for_two = for_two
both_well (d ∷ ds) two for_one for_two = (for_one.0, both_well ds two for_one.1 for_two)

first_well : (os es : List Due) → AreWell os → AreWell es → IsFirstWell (first_due os es)
first_well [] [] for_os for_es = tt
first_well [] (e ∷ es) for_os for_es = for_es.0
first_well (d ∷ ds) es for_os for_es = for_os.0

owed_well : (instead os : List Due) → AreWell instead → AreWell os →
    AreWell (owed_then instead os)
owed_well instead [] well for_os = tt
owed_well instead (d ∷ ds) well for_os = both_well instead ds well for_os.1

ends_well : (instead os es : List Due) → AreWell instead → AreWell es →
    AreWell (ends_then instead os es)
ends_well instead [] [] well for_es = tt
ends_well instead [] (e ∷ es) well for_es = both_well instead es well for_es.1
ends_well instead (d ∷ ds) es well for_es = for_es

-- the messages of each ask of a script ask for no long payload
abbrev pub WordsFit : Type 0
WordsFit = (port call : ℕ) (words : AskWords) → IsWords words →
    All AsksWell (messages_in (bytes_of port call words))

module _ (fit : WordsFit) (script : ScriptValue) (is : IsScript script) (place port : ℕ) where
  messages_well : (dids : List Did) (o : Option Due) → IsFirstWell o →
      AreWell (messages_of port dids o)
  messages_well dids None well = tt
  messages_well dids (Some (Message m)) well = tt
  messages_well dids (Some (Still Close)) well = tt
  messages_well dids (Some (Still (Words words))) well =
      let bytes = bytes_of port (next_call dids) words in
      due_messages (messages_in bytes) (all_known (length bytes) bytes)
      (recursion_from_All AsksWell (messages_in bytes) (fit port (next_call dids) words well))

  start_well : OwesWell (start script place)
  start_well = record {
    owed = due_asks (opening script place) (opening_asks script is place);
    ends = due_asks (closing script place) (closing_asks script is place);
  }

  after_well : (t : Standing) (n : Note) → IsNext 1 t n → OwesWell t →
      OwesWell (after 1 script place port t n)
  after_well t (Got l) next well = record {
    owed = due_asks _ (answer_good script is place _ _);
    ends = well.ends;
  }
  after_well t Turned next well = absurd (true≢false (sym next.0))
  after_well t Begun next well =
      let first = first_well t.owed t.ends well.owed well.ends in
      let messages = messages_well t.dids (first_due t.owed t.ends) first in
      record {
        owed = owed_well (messages_of port t.dids (first_due t.owed t.ends)) t.owed messages
            well.owed;
        ends = ends_well (messages_of port t.dids (first_due t.owed t.ends)) t.owed t.ends messages
            well.ends;
      }
  after_well t (Spoke call m errno) next well = record {
    owed = owed_well [] t.owed tt well.owed;
    ends = ends_well [] t.owed t.ends tt well.ends;
  }
  after_well t Shut next well = record { owed = well.owed; ends = tt }

  -- ---- what it says

  payload_fit : (r : Request) → PayloadFits r → payload_fits r ≡ true
  payload_fit (Config queue command params maxlen flags mask) fits = refl
  payload_fit (Verdict queue head mark None priority) fits = refl
  payload_fit (Verdict queue head mark (Some bytes) priority) fits =
      le-leb (length bytes) longest_payload fits
  payload_fit (Batch queue head mark priority) fits = refl

  words_told : (call : ℕ) (m : NetlinkMessage) (d : Decoded) → IsKnown m → AskedFits d →
      told_by_words port call (words_of port call m.whole d) ≡ Some m
  words_told call m Nothing known fits = known
  words_told call m (Refused errno) known fits = known
  words_told call m (Asked request) known fits =
      by (bytes_eq m.whole (spelling port call request)) refl
    where
      by : (b : Bool) → bytes_eq m.whole (spelling port call request) ≡ b →
          told_by_words port call (cond b (Plain request) (Raw m.whole)) ≡ Some m
      by true same =
          ap (λ (fit : Bool). cond fit (message_in (spelling port call request)) None)
          (payload_fit request fits)
          ∙ ap message_in
          (sym ((bytes_eq-Decides m.whole (spelling port call request)).0 same))
          ∙ known
      by false other = known

  note_told : (t : Standing) (n : Note) → IsNext 1 t n → OwesWell t → IsToldByWords port n
  note_told t (Got l) next well = tt
  note_told t Turned next well = tt
  note_told t Begun next well = tt
  note_told t (Spoke call m errno) next well =
      let due : IsDueWell (Message m) = subst IsFirstWell next.1
      (first_well t.owed t.ends well.owed well.ends) in
      words_told call m (decoded m) due.0 due.1
  note_told t Shut next well = tt

  notes_told : (t : Standing) (ns : List Note) → AreNextFrom 1 script place port t ns →
      OwesWell t → AllByRecursion (IsToldByWords port) ns
  notes_told t [] next well = tt
  notes_told t (n ∷ ns) next well = (
    note_told t n next.0 well,
    notes_told (after 1 script place port t n) ns next.1 (after_well t n next.0 well),
  )

  pub log_told : (ns : List Note) → AreNextFrom 1 script place port (start script place) ns →
      AllByRecursion (IsToldByWords port) ns
  log_told ns next = notes_told (start script place) ns next start_well

-- ---- all logs

module _ (script : ScriptValue) (h : Histories) (notes : ℕ → List Note)
    (logs : HaveLogs script h notes) where
  pub all_told : AreTold script h notes
  all_told port is = by (log_of port h.logs) refl (logs.there port is)
    where
      by : (o : Option (List Did)) → log_of port h.logs ≡ o → IsSome (log_of port h.logs) →
          map unanswered (dids_of port h.logs) ≡ map unanswered (logged port (notes port))
      by None none some = absurd (true≢false (sym (subst IsSome none some)))
      by (Some dids) log some =
          ap (λ (o : Option (List Did)). map unanswered (dids_in o)) log
          ∙ (logs.logs.each port dids is log).noted

  pub all_by_words : WordsFit → IsScript script → AreToldByWords script notes
  all_by_words fit limits port is = by (log_of port h.logs) refl (logs.there port is)
    where
      by : (o : Option (List Did)) → log_of port h.logs ≡ o → IsSome (log_of port h.logs) →
          AllByRecursion (IsToldByWords port) (notes port)
      by None none some = absurd (true≢false (sym (subst IsSome none some)))
      by (Some dids) log some =
          log_told fit script limits (place_in port script.ports) port (notes port)
          (logs.logs.each port dids is log).next
