-- A log that can be walked is told in full, entry by entry.
use Rattle.std.proofs.Common.{◌≡◌, ◌∙◌, ℕ, List, [], ◌∷◌, ◌++◌, refl, sym, subst}
use Rattle.std.proofs.Common.{Bool, true, false}
use Rattle.std.specs.Prelude.{All, map, flat_map}
use Rattle.std.specs.List.{AllByRecursion}
use Rattle.std.proofs.lemmas.List.Elements.{recursion_from_All}
use Rattle.netlink_codec.specs.Messages.{NetlinkMessage}
use Rattle.histories.specs.declared.log.AskWords.{AskWords}
use Rattle.histories.specs.declared.log.Did.{Did}
use Rattle.packet_moves.specs.Calls.{next_call}
use Rattle.script_lines.specs.Limits.{IsWords}
use Rattle.script_lines.specs.declared.ask.Ask.{Ask}
use Rattle.script_lines.specs.declared.ask.Ask.TheVariants.{Words, Close}
use Rattle.inspector_script.specs.Scripts.{ScriptValue}
use Rattle.run_parts.specs.Datagrams.{AsksWell, bytes_of, messages_in}
use Rattle.run_parts.specs.Notices.{heard}
use Rattle.run_parts.specs.Requests.{answer_in}
use Rattle.run_parts.specs.Log.{Note, Begun, Due, Still, Message}
use Rattle.run_parts.specs.Log.{Standing}
use Rattle.run_parts.specs.Log.{first_due, is_some_due, all_due, after, IsAskDue}
use Rattle.run_parts.specs.Log.{AreNextFrom, standing_from, logged}
use Rattle.run_parts.specs.Log.{unanswered}
use Rattle.log_audit.specs.Telling.{IsOwn, IsKnown, IsMessage, IsWell, told_errno}
use Rattle.log_audit.specs.Telling.{errno_of}
use Rattle.log_audit.specs.Walking.{Known, begun, settled}
use Rattle.log_audit.specs.Walking.{messages_for}
use Rattle.log_audit.proofs.WalkCompleteness.{stand}
use Rattle.port_audit.specs.AskLengths.{AllAsks}
use Rattle.log_audit.proofs.MessageBytes.{own_messages}

-- ---- messages that are due

abbrev pub AskWell : Type 0
AskWell = (port call : ℕ) (words : AskWords) → IsWords words →
    All AsksWell (messages_in (bytes_of port call words))

abbrev pub IsFine : Due → Type 0
IsFine (Still (Words words)) = IsWords words
IsFine (Still Close) = Unit {0}
IsFine (Message m) = IsMessage m

both : (ms : List NetlinkMessage) → AllByRecursion IsOwn ms → AllByRecursion AsksWell ms →
    AllByRecursion IsMessage ms
both [] own well = tt
both (m ∷ ms) own well =
    (record { own = own.0; asks = well.0 }, both ms own.1 well.1)

messages_fine : AskWell → (port call : ℕ) (words : AskWords) → IsWords words →
    AllByRecursion IsMessage (messages_for port call words)
messages_fine well port call words is =
    both (messages_for port call words) (own_messages (bytes_of port call words))
    (recursion_from_All AsksWell (messages_for port call words) (well port call words is))

fine_messages : (ms : List NetlinkMessage) (ds : List Due) → AllByRecursion IsMessage ms →
    AllByRecursion IsFine ds → AllByRecursion IsFine (map Message ms ++ ds)
fine_messages [] ds are fine = fine
fine_messages (m ∷ ms) ds are fine = (are.0, fine_messages ms ds are.1 fine)

pub fine_settled : AskWell → (port call : ℕ) (ds : List Due) → AllByRecursion IsFine ds →
    AllByRecursion IsFine (settled port call ds)
fine_settled well port call [] fine = tt
fine_settled well port call (Still (Words words) ∷ ds) fine =
    by (messages_for port call words) (messages_fine well port call words fine.0)
    (fine_settled well port call ds fine.1)
  where
    by : (ms : List NetlinkMessage) → AllByRecursion IsMessage ms →
        AllByRecursion IsFine (settled port call ds) →
        AllByRecursion IsFine (begun ms (settled port call ds) ds)
    by [] are rest = rest
    by (m ∷ ms) are rest = (are.0, fine_messages ms ds are.1 fine.1)
fine_settled well port call (Still Close ∷ ds) fine = fine
fine_settled well port call (Message m ∷ ds) fine = fine

pub fine_asks : (asks : List Ask) → AllAsks asks → AllByRecursion IsFine (all_due asks)
fine_asks [] are = tt
fine_asks (Words words ∷ asks) are = (are.0, fine_asks asks are.1)
fine_asks (Close ∷ asks) are = (tt, fine_asks asks are.1)

-- no message is first
abbrev pub IsSilent : List Due → Type 0
IsSilent ds = (m : NetlinkMessage) (es : List Due) → ds ≡ Message m ∷ es → ⊥

none_silent : (ds : List Due) → ds ≡ [] → IsSilent ds
none_silent ds none m es some = let wrong : [] ≡ Message m ∷ es = sym none ∙ some in cc

pub close_silent : (ds : List Due) → ds ≡ Still Close ∷ [] → IsSilent ds
close_silent ds close m es some =
    let wrong : Still Close ∷ [] ≡ Message m ∷ es = sym close ∙ some in cc

module _ (known : Known) (script : ScriptValue) (place port : ℕ) where
  -- the rest of a log is told, from where a port stands on
  pub record IsRest (t : Standing) (dids : List Did) (notes : List Note) : Type 0 where
    pub next : AreNextFrom 1 script place port t notes
    pub noted : map unanswered dids ≡ map unanswered (logged port notes)
    pub owed : (standing_from 1 script place port t notes).owed ≡ []
    pub ended : (standing_from 1 script place port t notes).ends ≡ []
    pub letters : AllByRecursion (IsKnown known) (heard notes)
    pub messages : AllByRecursion IsWell notes
    pub errnos : flat_map errno_of notes ≡ map told_errno (flat_map answer_in dids)

  abbrev pub Rest : Standing → List Did → Type 0
  Rest t dids = (notes : List Note) × IsRest t dids notes

  -- an ask is taken up
  begun_rest : (t : Standing) (dids : List Did) → t.is_open ≡ true →
      IsAskDue (first_due t.owed t.ends) → Rest (after 1 script place port t Begun) dids →
      Rest t dids
  begun_rest t dids opened due rest = (
    Begun ∷ rest.0,
    record {
      next = ((opened, due), rest.1.next);
      noted = rest.1.noted;
      owed = rest.1.owed;
      ended = rest.1.ended;
      letters = rest.1.letters;
      messages = (tt, rest.1.messages);
      errnos = rest.1.errnos;
    },
  )

  module _ (dids : List Did) (pending : List (List Due)) (rest : List Did) where
    -- what is owed is settled
    pub settle_owed : (owed ends : List Due) →
        ((f : Bool) → (IsSilent (settled port (next_call dids) owed) → f ≡ false) →
        Rest (stand dids (settled port (next_call dids) owed) pending ends true f) rest) →
        Rest (stand dids owed pending ends true false) rest
    settle_owed [] ends on = on false (λ silent. refl)
    settle_owed (Still (Words words) ∷ ds) ends on =
        begun_rest (stand dids (Still (Words words) ∷ ds) pending ends true false) rest refl tt
        (by (messages_for port (next_call dids) words) (settle_owed ds ends) on)
      where
        by : (ms : List NetlinkMessage) →
            (((f : Bool) → (IsSilent (settled port (next_call dids) ds) → f ≡ false) →
            Rest (stand dids (settled port (next_call dids) ds) pending ends true f) rest) →
            Rest (stand dids ds pending ends true false) rest) →
            ((f : Bool) →
            (IsSilent (begun ms (settled port (next_call dids) ds) ds) → f ≡ false) →
            Rest (stand dids (begun ms (settled port (next_call dids) ds) ds) pending ends true f)
            rest) →
            Rest (stand dids (map Message ms ++ ds) pending ends true
            (is_some_due (map Message ms))) rest
        by [] more on = more on
        by (m ∷ ms) more on = on true (λ silent. absurd (silent m (map Message ms ++ ds) refl))
    settle_owed (Still Close ∷ ds) ends on = on false (λ silent. refl)
    settle_owed (Message m ∷ ds) ends on = on false (λ silent. refl)

    -- where nothing is owed, the end is settled
    pub settle_ends : (ends : List Due) →
        ((f : Bool) → (IsSilent (settled port (next_call dids) ends) → f ≡ false) →
        Rest (stand dids [] pending (settled port (next_call dids) ends) true f) rest) →
        Rest (stand dids [] pending ends true false) rest
    settle_ends [] on = on false (λ silent. refl)
    settle_ends (Still (Words words) ∷ ds) on =
        begun_rest (stand dids [] pending (Still (Words words) ∷ ds) true false) rest refl tt
        (by (messages_for port (next_call dids) words) (settle_ends ds) on)
      where
        by : (ms : List NetlinkMessage) →
            (((f : Bool) → (IsSilent (settled port (next_call dids) ds) → f ≡ false) →
            Rest (stand dids [] pending (settled port (next_call dids) ds) true f) rest) →
            Rest (stand dids [] pending ds true false) rest) →
            ((f : Bool) →
            (IsSilent (begun ms (settled port (next_call dids) ds) ds) → f ≡ false) →
            Rest (stand dids [] pending (begun ms (settled port (next_call dids) ds) ds) true f)
            rest) →
            Rest (stand dids [] pending (map Message ms ++ ds) true
            (is_some_due (map Message ms))) rest
        by [] more on = more on
        by (m ∷ ms) more on = on true (λ silent. absurd (silent m (map Message ms ++ ds) refl))
    settle_ends (Still Close ∷ ds) on = on false (λ silent. refl)
    settle_ends (Message m ∷ ds) on = on false (λ silent. refl)

    -- where nothing is owed that has a message
    pub settle_none : (owed ends : List Due) → settled port (next_call dids) owed ≡ [] →
        Rest (stand dids [] pending ends true false) rest →
        Rest (stand dids owed pending ends true false) rest
    settle_none owed ends none base =
        settle_owed owed ends (λ f fresh.
        let is : f ≡ false = fresh (none_silent (settled port (next_call dids) owed) none) in
        subst (λ g. Rest (stand dids (settled port (next_call dids) owed) pending ends true g) rest)
        (sym is)
        (subst (λ o. Rest (stand dids o pending ends true false) rest) (sym none) base))
