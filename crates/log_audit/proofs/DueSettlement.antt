-- What is due, as it is settled.
use Rattle.std.proofs.Common.{◌≡◌, ◌∙◌, ℕ, ◌<◌, ◌^◌, List, [], ◌∷◌, ◌++◌, refl, sym, ap}
use Rattle.std.proofs.Common.{Bool, true, inl, inr}
use Rattle.std.specs.Prelude.{map, ◌⊎◌}
use Rattle.std.specs.List.{AllByRecursion}
use Rattle.netlink_codec.specs.Messages.{NetlinkMessage}
use Rattle.histories.specs.declared.log.AskWords.{AskWords}
use Rattle.histories.specs.declared.log.Did.{Did}
use Rattle.packet_moves.specs.Calls.{next_call}
use Rattle.script_lines.specs.declared.ask.Ask.{Ask}
use Rattle.script_lines.specs.declared.ask.Ask.TheVariants.{Words, Close}
use Rattle.run_parts.specs.Log.{Due, Still, Message, first_due, owed_then, ends_then, IsAskDue}
use Rattle.run_parts.specs.Log.{messages_of, is_some_due}
use Rattle.log_audit.specs.Walking.{messages_for, begun, settled}
use Rattle.log_audit.proofs.WalkCounts.{call_fits}

-- an ask has messages, or has none, whatever number its first one has
abbrev pub IsEven : ℕ → Due → Type 0
IsEven port (Still (Words words)) = (one other : ℕ) → one < 2 ^ 32 → other < 2 ^ 32 →
    messages_for port one words ≡ [] → messages_for port other words ≡ []
IsEven port (Still Close) = Unit {0}
IsEven port (Message m) = Unit {0}

-- what the end has is the same, for the walk and for what is told, whatever the next number is
abbrev pub Lasts : ℕ → List Due → List Due → Type 0
Lasts port mine ends =
    (call : ℕ) → call < 2 ^ 32 → settled port call mine ≡ settled port call ends

-- or an ask of the end has just been taken up
pub record IsTakenUp (port call : ℕ) (mine owed ends : List Due) (is_fresh : Bool) : Type 0 where
  pub none : owed ≡ []
  pub fresh : is_fresh ≡ true
  pub message : NetlinkMessage
  pub others : List Due
  pub due : ends ≡ Message message ∷ others
  pub same : settled port call mine ≡ Message message ∷ others

-- The walk owes `my_owed` and `my_ends`, and it is told that these are owed: the same, but that
-- asks may have been taken up.
pub record IsAlike (port call : ℕ) (my_owed my_ends owed ends : List Due) (is_fresh : Bool)
    : Type 0 where
  pub owing : settled port call my_owed ≡ settled port call owed
  pub ending : Lasts port my_ends ends ⊎ IsTakenUp port call my_ends owed ends is_fresh
  pub even : AllByRecursion (IsEven port) ends

-- messages that are taken up are settled
settled_messages : (port call : ℕ) (ms : List NetlinkMessage) (ds : List Due) →
    settled port call (map Message ms ++ ds) ≡ begun ms (settled port call ds) ds
settled_messages port call [] ds = refl
settled_messages port call (m ∷ ms) ds = refl

even_messages : (port : ℕ) (ms : List NetlinkMessage) (ds : List Due) →
    AllByRecursion (IsEven port) ds → AllByRecursion (IsEven port) (map Message ms ++ ds)
even_messages port [] ds even = even
even_messages port (m ∷ ms) ds even = (tt, even_messages port ms ds even)

-- an ask of the end is taken up
module _ (port : ℕ) (dids : List Did) (my_owed my_ends : List Due) where
  ending_begun : (words : AskWords) (es : List Due) (ms : List NetlinkMessage) →
      messages_for port (next_call dids) words ≡ ms →
      Lasts port my_ends (Still (Words words) ∷ es) → IsEven port (Still (Words words)) →
      Lasts port my_ends (map Message ms ++ es)
      ⊎ IsTakenUp port (next_call dids) my_ends [] (map Message ms ++ es)
      (is_some_due (map Message ms))
  ending_begun words es [] are lasts even =
      inl (λ call fits. lasts call fits
      ∙ ap (λ ms. begun ms (settled port call es) es)
      (even (next_call dids) call (call_fits dids) fits are))
  ending_begun words es (m ∷ ms) are lasts even =
      inr (record {
        none = refl;
        fresh = refl;
        message = m;
        others = map Message ms ++ es;
        due = refl;
        same = lasts (next_call dids) (call_fits dids)
            ∙ ap (λ ns. begun ns (settled port (next_call dids) es) es) are;
      })

  pub alike_begun : (owed ends : List Due) (fresh : Bool) → IsAskDue (first_due owed ends) →
      IsAlike port (next_call dids) my_owed my_ends owed ends fresh →
      IsAlike port (next_call dids) my_owed my_ends
      (owed_then (messages_of port dids (first_due owed ends)) owed)
      (ends_then (messages_of port dids (first_due owed ends)) owed ends)
      (is_some_due (messages_of port dids (first_due owed ends)))
  alike_begun [] [] fresh is alike = absurd is
  alike_begun [] (Still (Words words) ∷ es) fresh is alike = record {
    owing = alike.owing;
    ending = elim alike.ending [
      | inl lasts ↦ ending_begun words es (messages_for port (next_call dids) words) refl lasts
          alike.even.0
      | inr taken ↦ absurd (not_message (Words words) taken.message es taken.others taken.due)
    ];
    even = even_messages port (messages_for port (next_call dids) words) es alike.even.1;
  }
    where
      not_message : (ask : Ask) (m : NetlinkMessage) (ds es : List Due) →
          (Still ask ∷ ds) ≡ (Message m ∷ es) → ⊥
      not_message ask m ds es same = cc
  alike_begun [] (Still Close ∷ es) fresh is alike = absurd is
  alike_begun [] (Message m ∷ es) fresh is alike = absurd is
  alike_begun (Still (Words words) ∷ ds) ends fresh is alike = record {
    owing = alike.owing
        ∙ sym (settled_messages port (next_call dids)
        (messages_for port (next_call dids) words) ds);
    ending = elim alike.ending [
      | inl lasts ↦ inl lasts
      | inr taken ↦ absurd (some_owed taken.none)
    ];
    even = alike.even;
  }
    where
      some_owed : (Still (Words words) ∷ ds) ≡ [] → ⊥
      some_owed same = cc
  alike_begun (Still Close ∷ ds) ends fresh is alike = absurd is
  alike_begun (Message m ∷ ds) ends fresh is alike = absurd is
