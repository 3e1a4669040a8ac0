-- What is due, as it is held: bytes and asks.
use Rattle.std.proofs.Common.{◌≡◌, ◌∙◌, ◌+◌, ℕ, List, [], ◌∷◌, ◌++◌, refl, sym, ap, subst}
use Rattle.std.proofs.Common.{Bool, true, false, Option, Some, None, length, drop, arith}
use Rattle.std.specs.Prelude.{All, map, slice_get, is_some, option_map, unwrap_or}
use Rattle.std.proofs.lemmas.List.{drop-drop}
use Rattle.std.proofs.lemmas.List.Elements.{recursion_from_All}
use Rattle.std.proofs.lemmas.List.Elements.{All-from_recursion}
use Rattle.netlink_codec.specs.Messages.{NetlinkMessage, first_message}
use Rattle.histories.specs.declared.log.AskWords.{AskWords}
use Rattle.script_lines.specs.Limits.{IsAsk}
use Rattle.script_lines.specs.declared.ask.Ask.{Ask}
use Rattle.script_lines.specs.declared.ask.Ask.TheVariants.{Words, Close}
use Rattle.run_parts.specs.Datagrams.{messages_in}
use Rattle.run_parts.specs.Log.{Due, Still, Message, all_due, first_due}
use Rattle.log_audit.specs.Walking.{IsLoggedAs, begun, settled}
use Rattle.log_audit.specs.declared.duties.Duties.{Duties}
use Rattle.log_audit.specs.Dues.{BeginWithWords, HasMessage, dues_of}

-- ---- a message that is due

pub has_cut : ((bytes : List ℕ) (m : NetlinkMessage) (used : ℕ) →
    first_message bytes ≡ Some (m, used) → messages_in bytes ≡ m ∷ messages_in (drop used bytes)) →
    ((bytes : List ℕ) → first_message bytes ≡ None → messages_in bytes ≡ []) →
    {F : Type 0} (framed : F → NetlinkMessage × ℕ) (d : Duties) (bytes : List ℕ) (o : Option F)
    (b : Bool) → bytes ≡ drop d.used d.bytes → option_map framed o ≡ first_message bytes →
    b ≡ is_some o → HasMessage d b
has_cut first none {F} framed d bytes None true is read tested =
    let wrong : true ≡ false = tested in absurd cc
has_cut first none {F} framed d bytes None false is read tested =
    ap (λ ms. map Message ms ++ all_due d.asks)
    (ap messages_in (sym is) ∙ none bytes (sym read))
has_cut first none {F} framed d bytes (Some f) true is read tested = (
  (framed f).0,
  map Message (messages_in (drop (framed f).1 bytes)) ++ all_due d.asks,
  ap (λ ms. map Message ms ++ all_due d.asks)
      (ap messages_in (sym is) ∙ first bytes (framed f).0 (framed f).1 (sym read)),
)
has_cut first none {F} framed d bytes (Some f) false is read tested =
    let wrong : false ≡ true = tested in absurd cc

-- ---- asks

pub none_due : (asks : List Ask) → all_due asks ≡ [] → asks ≡ []
none_due [] none = refl
none_due (a ∷ asks) none = let wrong : Still a ∷ all_due asks ≡ [] = none in absurd cc

pub closing_due : (asks : List Ask) → all_due asks ≡ Still Close ∷ [] → asks ≡ Close ∷ []
closing_due [] is = let wrong : [] ≡ Still Close ∷ [] = is in absurd cc
closing_due (Close ∷ []) is = refl
closing_due (Words words ∷ asks) is =
    let wrong : Still (Words words) ∷ all_due asks ≡ Still Close ∷ [] = is in absurd cc
closing_due (Close ∷ a ∷ asks) is =
    let wrong : Still Close ∷ Still a ∷ all_due asks ≡ Still Close ∷ [] = is in absurd cc

same_Some : {A : Type 0} {x y : A} → Some x ≡ Some y → x ≡ y
same_Some {A} {x} {y} same = ap (λ (o : Option A). unwrap_or o x) same

pub words_first : (asks : List Ask) (words : AskWords) → slice_get asks 0 ≡ Some (Words words) →
    BeginWithWords asks true
words_first [] words is = let wrong : None ≡ Some (Words words) = is in absurd cc
words_first (a ∷ asks) words is = (words, asks, ap (λ x. x ∷ asks) (same_Some is))

pub close_first : (asks : List Ask) → slice_get asks 0 ≡ Some Close → BeginWithWords asks false
close_first [] is = let wrong : None ≡ Some Close = is in absurd cc
close_first (Close ∷ asks) is = λ port call. refl
close_first (Words words ∷ asks) is =
    let wrong : Some (Words words) ≡ Some Close = is in absurd cc

pub none_first : (asks : List Ask) → slice_get asks 0 ≡ None → BeginWithWords asks false
none_first [] is = λ port call. refl
none_first (a ∷ asks) is = let wrong : Some a ≡ None = is in absurd cc

pub only_close : (asks : List Ask) → length asks ≡ 1 → slice_get asks 0 ≡ Some Close →
    asks ≡ Close ∷ []
only_close [] one is = let wrong : None ≡ Some Close = is in absurd cc
only_close (a ∷ []) one is = ap (λ x. x ∷ []) (same_Some is)
only_close (a ∷ b ∷ asks) one is = absurd (omega (arith, one))

-- ---- an ask is taken up

settled_messages : (port call : ℕ) (ms : List NetlinkMessage) (ds : List Due) →
    settled port call (map Message ms ++ ds) ≡ begun ms (settled port call ds) ds
settled_messages port call [] ds = refl
settled_messages port call (m ∷ ms) ds = refl

pub rest_held : (asks : List Ask) (words : AskWords) (rest : List Ask) → All IsAsk asks →
    asks ≡ Words words ∷ rest → All IsAsk rest
rest_held asks words rest all is =
    let P : List Ask → Type 0 = λ xs. All IsAsk xs in
    All-from_recursion IsAsk rest
    (recursion_from_All IsAsk (Words words ∷ rest) (subst P is all)).1

-- ---- a message is done

pub said : ((bytes : List ℕ) (m : NetlinkMessage) (used : ℕ) →
    first_message bytes ≡ Some (m, used) → messages_in bytes ≡ m ∷ messages_in (drop used bytes)) →
    (d : Duties) (bytes : List ℕ) (m : NetlinkMessage) (used : ℕ) → bytes ≡ drop d.used d.bytes →
    first_message bytes ≡ Some (m, used) →
    dues_of d ≡ Message m ∷ dues_of (record d { used = d.used + used })
said first d bytes m used is read =
    ap (λ ms. map Message ms ++ all_due d.asks)
    (ap messages_in (sym is) ∙ first bytes m used read
    ∙ ap (λ bs. m ∷ messages_in bs) (ap (drop used) is ∙ drop-drop used d.used d.bytes))

pub asks_say_nothing : (port call : ℕ) (ask : AskWords) (asks : List Ask) →
    IsLoggedAs port call ask (first_due (all_due asks) []) → ⊥
asks_say_nothing port call ask [] logged = logged
asks_say_nothing port call ask (a ∷ asks) logged = logged
