-- What all ports did, told in full: the logs of a script's ports, walked one by one.
use Rattle.std.proofs.Common.{◌≡◌, ◌∙◌, ◌<◌, ◌^◌, ℕ, List, [], ◌∷◌, refl, sym, ap, subst}
use Rattle.std.proofs.Common.{Bool, true, false, Option, Some, None, cond}
use Rattle.std.specs.Prelude.{map, flat_map, nat_eq, ◌==◌, ◌||◌, IsSome, unwrap_or}
use Rattle.std.specs.Prelude.{if◌then◌else◌}
use Rattle.std.specs.List.{AllByRecursion, list_any}
use Rattle.std.proofs.lemmas.Bool.{eqb-true}
use Rattle.packet_entry.specs.declared.letter.Letter.{Letter}
use Rattle.histories.specs.declared.entry.Entry.{Entry}
use Rattle.histories.specs.declared.histories.Histories.{Histories}
use Rattle.histories.specs.declared.log.Did.{Did}
use Rattle.inspector_script.specs.Scripts.{IsScript, ScriptValue}
use Rattle.run_parts.specs.Log.{Note, Got, Turned, Begun, Spoke, Shut, IsLog, start}
use Rattle.run_parts.specs.Notices.{heard}
use Rattle.run_parts.specs.Order.{kinds_from}
use Rattle.run_parts.specs.Ports.{is_port, log_of, place_in}
use Rattle.port_audit.specs.Makers.{HaveLogs, IsTaken}
use Rattle.run_parts.specs.Requests.{answer_in}
use Rattle.port_audit.specs.Told.{dids_in}
use Rattle.port_audit.specs.Pleading.{AreToldByWords, errnos_by, errno_told}
use Rattle.log_audit.specs.Telling.{AreKnown, IsKeyed, IsKnown, IsToldBy, errno_of, told_errno}
use Rattle.log_audit.specs.Walking.{IsWalked, Known, ended, kinds_at}
use Rattle.log_audit.specs.Judged.{AllHaveKinds, AllOnlyOnes, AreJudgedByPort, ArePortsWalked}
use Rattle.log_audit.specs.Judged.{AreTold}
use Rattle.log_audit.specs.Judged.{IsPortWalked, IsWalkable}
use Rattle.log_audit.specs.PortWalks.{timed_of}
use Rattle.log_audit.specs.Stays.{known_in}
use Rattle.log_audit.specs.declared.judging.PortKinds.{PortKinds}
use Rattle.log_audit.proofs.KnownNotices.{keyed_in, known_taken, taken_known}

-- ---- errnos

same_errnos : (ns : List Note) → flat_map errnos_by ns ≡ flat_map errno_of ns
same_errnos [] = refl
same_errnos (Got l ∷ ns) = same_errnos ns
same_errnos (Turned ∷ ns) = same_errnos ns
same_errnos (Begun ∷ ns) = same_errnos ns
same_errnos (Spoke call m errno ∷ ns) = ap (λ es. errno ∷ es) (same_errnos ns)
same_errnos (Shut ∷ ns) = same_errnos ns

same_told : (answers : List (Option ℕ)) → map told_errno answers ≡ map errno_told answers
same_told [] = refl
same_told (None ∷ answers) = ap (λ es. 0 ∷ es) (same_told answers)
same_told (Some errno ∷ answers) = ap (λ es. errno ∷ es) (same_told answers)

-- ---- notices

all_taken : (es : List Entry) (ls : List Letter) → AllByRecursion (IsKnown (known_in es)) ls →
    AllByRecursion (IsTaken es) ls
all_taken es [] are = tt
all_taken es (l ∷ ls) are = (known_taken es l are.0, all_taken es ls are.1)

all_known : (es : List Entry) → AllOnlyOnes es → (ls : List Letter) →
    AllByRecursion (IsTaken es) ls → AllByRecursion (IsKnown (known_in es)) ls
all_known es ones [] are = tt
all_known es ones (l ∷ ls) are = (taken_known es ones l are.0, all_known es ones ls are.1)

-- ---- what the laws say

-- a log that is what the script says tells each message by its words
abbrev pub WordsLaw : Type 0
WordsLaw = (script : ScriptValue) (h : Histories) (notes : ℕ → List Note) → IsScript script →
    HaveLogs script h notes → AreToldByWords script notes

abbrev pub TellsLaw : Type 0
TellsLaw = (known : Known) (script : ScriptValue) (place port : ℕ) (dids : List Did) →
    IsScript script → IsKeyed known → IsWalked known script place port dids →
    (notes : List Note) × IsToldBy known script place port dids notes

abbrev pub WalksLaw : Type 0
WalksLaw = (known : Known) (script : ScriptValue) (place port : ℕ) (dids : List Did)
    (notes : List Note) → port < 2 ^ 32 → IsScript script →
    IsLog 1 script place port notes dids → AreKnown known notes →
    IsWalked known script place port dids

abbrev pub KindsLaw : Type 0
KindsLaw = (known : Known) (script : ScriptValue) (place port : ℕ) (dids : List Did)
    (notes : List Note) → port < 2 ^ 32 → IsScript script →
    IsLog 1 script place port notes dids → AreKnown known notes → (queue : ℕ) →
    kinds_from 1 script place queue port (start script place) notes
    ≡ kinds_at queue (ended known script place port dids).timed

same_Some : {A : Type 0} {x y : A} → Some x ≡ Some y → x ≡ y
same_Some {A} {x} {y} same = ap (λ (o : Option A). unwrap_or o x) same

module _ (script : ScriptValue) (h : Histories) (is : IsScript script) where
  -- what a port did, told in full
  record IsChosen (port : ℕ) (notes : List Note) : Type 0 where
    dids : List Did
    log : log_of port h.logs ≡ Some dids
    told : IsToldBy (known_in h.entries) script (place_in port script.ports) port dids notes

  chosen_one : TellsLaw → (port : ℕ) (k : PortKinds) → IsPortWalked script h port k →
      (notes : List Note) × IsChosen port notes
  chosen_one tells port k walked =
      let told = tells (known_in h.entries) script (place_in port script.ports) port walked.dids is
      (keyed_in h.entries) walked.walked.0 in
      (told.0, record { dids = walked.dids; log = walked.log; told = told.1 })

  -- of each of these ports that, and nothing of others
  record AreChosen (ps : List ℕ) (notes : ℕ → List Note) : Type 0 where
    each : (port : ℕ) → list_any (nat_eq port) ps ≡ true → IsChosen port (notes port)
    others : (port : ℕ) → list_any (nat_eq port) ps ≡ false → notes port ≡ []

  abbrev put : ℕ → List Note → (ℕ → List Note) → ℕ → List Note
  put p notes rest port = if port == p then notes else rest port

  put_each : (p : ℕ) (ns : List Note) (ps : List ℕ) (rest : ℕ → List Note) → IsChosen p ns →
      AreChosen ps rest → (port : ℕ) → list_any (nat_eq port) (p ∷ ps) ≡ true →
      IsChosen port (put p ns rest port)
  put_each p ns ps rest here more port among = by (port == p) refl among
    where
      by : (b : Bool) → (port == p) ≡ b → (b || list_any (nat_eq port) ps) ≡ true →
          IsChosen port (cond b ns (rest port))
      by true same among = subst (λ q. IsChosen q ns) (sym (eqb-true port p same)) here
      by false same among = more.each port among

  put_others : (p : ℕ) (ns : List Note) (ps : List ℕ) (rest : ℕ → List Note) →
      AreChosen ps rest → (port : ℕ) → list_any (nat_eq port) (p ∷ ps) ≡ false →
      put p ns rest port ≡ []
  put_others p ns ps rest more port none = by (port == p) none
    where
      by : (b : Bool) → (b || list_any (nat_eq port) ps) ≡ false → cond b ns (rest port) ≡ []
      by true none = let wrong : true ≡ false = none in absurd cc
      by false none = more.others port none

  choose : TellsLaw → (ps : List ℕ) (ks : List PortKinds) → ArePortsWalked script h ps ks →
      (notes : ℕ → List Note) × AreChosen ps notes
  choose tells [] [] walked = (
    λ port. [],
    record {
      each = λ port among. let wrong : false ≡ true = among in absurd cc;
      others = λ port none. refl;
    },
  )
  choose tells [] (k ∷ ks) walked = absurd walked
  choose tells (p ∷ ps) [] walked = absurd walked
  choose tells (p ∷ ps) (k ∷ ks) walked =
      let one = chosen_one tells p k walked.0 in
      let rest = choose tells ps ks walked.1 in (
        put p one.0 rest.0,
        record {
          each = put_each p one.0 ps rest.0 one.1 rest.1;
          others = put_others p one.0 ps rest.0 rest.1;
        },
      )

  chosen_told : WordsLaw → (notes : ℕ → List Note) → AreChosen script.ports notes →
      AreTold script h notes
  chosen_told words notes chosen =
      let logs : HaveLogs script h notes = record {
        there = λ port among. let one = chosen.each port among in
            subst (λ (o : Option (List Did)). IsSome o) (sym one.log) refl;
        logs = record {
          each = λ port dids among log. let one = chosen.each port among in
              subst (IsLog 1 script (place_in port script.ports) port (notes port))
              (same_Some (sym one.log ∙ log)) one.told.log;
          others = chosen.others;
        };
        taken = λ port among.
            all_taken h.entries (heard (notes port)) (chosen.each port among).told.letters;
      } in
      record {
        logs = logs;
        words = words script h notes is logs;
        errnos = λ port among. let one = chosen.each port among in
            same_errnos (notes port) ∙ one.told.errnos ∙ same_told (flat_map answer_in one.dids)
            ∙ ap (λ o. map errno_told (flat_map answer_in (dids_in o))) (sym one.log);
      }

  -- ---- all notes have the same kinds

  abbrev ArePorts : List ℕ → Type 0
  ArePorts ps = AllByRecursion (λ p. (is_port script p ≡ true) × (p < 2 ^ 32)) ps

  have_kinds : KindsLaw → AllOnlyOnes h.entries → (ns : ℕ → List Note) → HaveLogs script h ns →
      (ps : List ℕ) → ArePorts ps → (ks : List PortKinds) → ArePortsWalked script h ps ks →
      AllHaveKinds script ns ks
  have_kinds kinds ones ns have [] are [] walked = tt
  have_kinds kinds ones ns have [] are (k ∷ ks) walked = absurd walked
  have_kinds kinds ones ns have (p ∷ ps) are [] walked = absurd walked
  have_kinds kinds ones ns have (p ∷ ps) are (k ∷ ks) walked =
      let one = walked.0 in
      let P : ℕ → Type 0 = λ q. (queue : ℕ) →
      kinds_from 1 script (place_in q script.ports) queue q
      (start script (place_in q script.ports)) (ns q)
      ≡ kinds_at queue (map timed_of k.kinds.items) in (
        subst P (sym one.is) (λ queue.
            kinds (known_in h.entries) script (place_in p script.ports) p one.dids (ns p) are.0.1 is
            (have.logs.each p one.dids are.0.0 one.log)
            (all_known h.entries ones (heard (ns p)) (have.taken p are.0.0)) queue
            ∙ ap (kinds_at queue) (sym one.walked.1)),
        have_kinds kinds ones ns have ps are.1 ks walked.1,
      )

  same_ports : (ps : List ℕ) (ks : List PortKinds) → ArePortsWalked script h ps ks →
      map (λ (k : PortKinds). k.port) ks ≡ ps
  same_ports [] [] walked = refl
  same_ports [] (k ∷ ks) walked = absurd walked
  same_ports (p ∷ ps) [] walked = absurd walked
  same_ports (p ∷ ps) (k ∷ ks) walked =
      ap (λ x. x ∷ map (λ (k : PortKinds). k.port) ks) walked.0.is
      ∙ ap (λ xs. p ∷ xs) (same_ports ps ks walked.1)

  pub judged : WordsLaw → TellsLaw → KindsLaw → AllOnlyOnes h.entries → ArePorts script.ports →
      (ks : List PortKinds) → ArePortsWalked script h script.ports ks →
      AreJudgedByPort script h ks
  judged words tells kinds ones are ks walked =
      let chosen = choose tells script.ports ks walked in
      record {
        notes = chosen.0;
        told = chosen_told words chosen.0 chosen.1;
        ports = same_ports script.ports ks walked;
        each = λ ns have. have_kinds kinds ones ns have script.ports are ks walked;
      }

  walkable_by : WalksLaw → AllOnlyOnes h.entries → (notes : ℕ → List Note) →
      HaveLogs script h notes → (port : ℕ) → port < 2 ^ 32 → is_port script port ≡ true →
      (o : Option (List Did)) → log_of port h.logs ≡ o → IsSome o → IsWalkable script h port
  walkable_by walks ones notes have port fits among None log some =
      let wrong : false ≡ true = some in absurd cc
  walkable_by walks ones notes have port fits among (Some dids) log some = record {
    dids = dids;
    log = log;
    walks = walks (known_in h.entries) script (place_in port script.ports) port dids (notes port)
        fits is (have.logs.each port dids among log)
        (all_known h.entries ones (heard (notes port)) (have.taken port among));
  }

  pub walkable : WalksLaw → AllOnlyOnes h.entries → (notes : ℕ → List Note) →
      HaveLogs script h notes → (port : ℕ) → port < 2 ^ 32 → is_port script port ≡ true →
      IsWalkable script h port
  walkable walks ones notes have port fits among =
      walkable_by walks ones notes have port fits among (log_of port h.logs) refl
      (have.there port among)
