-- Messages that are cut from bytes and sent, one after the other.
use Rattle.std.proofs.Common.{◌≡◌, ◌<◌, ◌≤◌, ◌+◌, ◌-◌, ◌^◌, ◌∙◌, ◌++◌, ◌∷◌, [], ℕ, zero, suc}
use Rattle.std.proofs.Common.{List, length, drop, length-drop, append-nil}
use Rattle.std.proofs.Common.{Option, Some, None, refl, sym, ap, arith}
use Rattle.netlink_codec.specs.Messages.{Front, NetlinkMessage, first_message}
use Rattle.nfqa_msgs.specs.declared.request.Request.{Request}
use Rattle.nfqa_msgs.specs.RequestWriting.{FitsRequest, spelled, spelling}
use Rattle.histories.specs.declared.log.AskWords.TheVariants.{Plain}
use Rattle.script_lines.specs.declared.ask.Ask.TheVariants.{Words}
use Rattle.packet_moves.specs.declared.setting.Setting.{Setting}
use Rattle.packet_moves.specs.Messages.{call_at}
use Rattle.packet_moves.specs.World.{World, Port}
use Rattle.solo_schedule.specs.Sending.{all_sent, done}
use Rattle.run_parts.specs.Datagrams.{cut_in, messages_in, with_those_behind}
use Rattle.solo_run.specs.RunState.{SendsFirst, request_sent}
use Rattle.solo_run.proofs.FirstMessage.{first_uses}

cut_more : (n look : ℕ) (rest : List ℕ) → look < n →
    cut_in (n - look) rest
    ≡ with_those_behind (cut_in (n - (look + 1))) rest (first_message rest)
cut_more n look rest more =
    let one : n - look ≡ suc (n - (look + 1)) = omega (arith, more) in
    ap (λ (k : ℕ). cut_in k rest) one

one_sent : (then : World → World) (s : Setting) (port : ℕ) (cut : List ℕ → List NetlinkMessage)
    (rest : List ℕ) (w mid : World) (used : ℕ) (front : Option (NetlinkMessage × ℕ)) → 0 < used →
    SendsFirst s port front w mid used →
    all_sent then s port (with_those_behind cut rest front) w
    ≡ all_sent then s port (cut (drop used rest)) (then mid)
one_sent then s port cut rest w mid used None some is = absurd (omega (arith, some, is.0))
one_sent then s port cut rest w mid used (Some (m, n)) some is =
    ap (λ (v : World). all_sent then s port (cut (drop n rest)) (then v)) (sym is.1)
    ∙ ap (λ (k : ℕ). all_sent then s port (cut (drop k rest)) (then mid)) (sym is.0)

no_more_sent : (then : World → World) (s : Setting) (port : ℕ) (cut : List ℕ → List NetlinkMessage)
    (rest : List ℕ) (w mid : World) (used : ℕ) (front : Option (NetlinkMessage × ℕ)) → used ≤ 0 →
    first_message rest ≡ front → SendsFirst s port front w mid used →
    all_sent then s port (with_those_behind cut rest front) w ≡ mid
no_more_sent then s port cut rest w mid used None none same is = sym is.1
no_more_sent then s port cut rest w mid used (Some (m, n)) none same is =
    absurd (omega (arith, (first_uses rest m n same).0, none, is.0))

-- one message was sent, and what follows it happened
pub sent_on : (then : World → World) (s : Setting) (port n look : ℕ) (rest behind : List ℕ)
    (w mid after : World) (used : ℕ) → look < n → 0 < used →
    SendsFirst s port (first_message rest) w mid used → behind ≡ drop used rest →
    after ≡ then mid →
    all_sent then s port (cut_in (n - (look + 1)) behind) after
    ≡ all_sent then s port (cut_in (n - look) rest) w
sent_on then s port n look rest behind w mid after used more some is cut gone =
    ap (λ (v : World). all_sent then s port (cut_in (n - (look + 1)) behind) v) gone
    ∙ ap (λ (b : List ℕ). all_sent then s port (cut_in (n - (look + 1)) b) (then mid)) cut
    ∙ sym (one_sent then s port (cut_in (n - (look + 1))) rest w mid used (first_message rest) some
    is)
    ∙ sym (ap (λ (ms : List NetlinkMessage). all_sent then s port ms w)
    (cut_more n look rest more))

-- no message stands in front
pub sent_all : (then : World → World) (s : Setting) (port n look : ℕ) (rest : List ℕ)
    (w mid : World) (used : ℕ) → look < n → used ≤ 0 →
    SendsFirst s port (first_message rest) w mid used →
    mid ≡ all_sent then s port (cut_in (n - look) rest) w
sent_all then s port n look rest w mid used more none is =
    sym (no_more_sent then s port (cut_in (n - (look + 1))) rest w mid used (first_message rest)
    none refl is)
    ∙ sym (ap (λ (ms : List NetlinkMessage). all_sent then s port ms w)
    (cut_more n look rest more))

within_rest : (rest : List ℕ) (s : Setting) (port : ℕ) (w mid : World) (used : ℕ)
    (front : Option (NetlinkMessage × ℕ)) → first_message rest ≡ front →
    SendsFirst s port front w mid used → used ≤ length rest
within_rest rest s port w mid used None same is = omega (arith, is.0)
within_rest rest s port w mid used (Some (m, n)) same is =
    omega (arith, (first_uses rest m n same).1, is.0)

pub used_within : (rest : List ℕ) (s : Setting) (port : ℕ) (w mid : World) (used : ℕ) →
    SendsFirst s port (first_message rest) w mid used → used ≤ length rest
used_within rest s port w mid used is =
    within_rest rest s port w mid used (first_message rest) refl is

-- ---- one message is all

none_cut : (looks : ℕ) (bytes : List ℕ) → length bytes ≡ 0 → cut_in looks bytes ≡ []
none_cut zero bytes none = refl
none_cut (suc looks) bytes none = by_front (first_message bytes) refl
  where
    by_front : (front : Option (NetlinkMessage × ℕ)) → first_message bytes ≡ front →
        with_those_behind (cut_in looks) bytes front ≡ []
    by_front None is = refl
    by_front (Some (m, n)) is =
        let uses = first_uses bytes m n is in absurd (omega (arith, uses.0, uses.1, none))

pub one_cut : (text : List ℕ) (m : NetlinkMessage) → first_message text ≡ Some (m, length text) →
    messages_in text ≡ m ∷ []
one_cut text m is = by_looks (length text) refl
  where
    by_looks : (looks : ℕ) → looks ≡ length text → cut_in looks text ≡ m ∷ []
    by_looks zero none = absurd (omega (arith, none, (first_uses text m (length text) is).0))
    by_looks (suc looks) some =
        ap (with_those_behind (cut_in looks) text) is
        ∙ ap (λ (ms : List NetlinkMessage). m ∷ ms)
        (none_cut looks (drop (length text) text) (omega (arith, length-drop (length text) text)))

-- ---- a request's spelling

call_small : (o : Option Port) → call_at o < 2 ^ 32
call_small None = omega arith
call_small (Some p) = omega arith

-- it is one message (`spelling_decodes_to_its_request`, `one_message_in_front`)
abbrev pub SpelledInFront : Type 0
SpelledInFront =
    (port call : ℕ) (request : Request) (behind : List ℕ) → port < 2 ^ 32 → call < 2 ^ 32 →
    FitsRequest request →
    Front (spelling port call request ++ behind) (spelled port call request)
    (length (spelling port call request))

abbrev pub OneInFront : Type 0
OneInFront =
    (bytes : List ℕ) (m : NetlinkMessage) (used : ℕ) → Front bytes m used →
    first_message bytes ≡ Some (m, used)

pub request_done : SpelledInFront → OneInFront → (then : World → World) (s : Setting) (port : ℕ)
    (request : Request) (w mid new : World) → port < 2 ^ 32 → FitsRequest request →
    mid ≡ request_sent s port request w → new ≡ then mid →
    new ≡ done then s port (Words (Plain request)) w
request_done in_front one then s port request w mid new small fits is gone =
    let call = call_at (w.ports port) in
    let text = spelling port call request in
    let m = spelled port call request in
    let first : first_message text ≡ Some (m, length text) =
    ap first_message (sym (append-nil text))
    ∙ one (text ++ []) m (length text)
    (in_front port call request [] small (call_small (w.ports port)) fits) in
    gone ∙ ap then is
    ∙ sym (ap (λ (ms : List NetlinkMessage). all_sent then s port ms w) (one_cut text m first))
