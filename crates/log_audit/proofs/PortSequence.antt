-- Ports, one after the other, and their logs.
use Rattle.std.proofs.Common.{◌≡◌, ◌∙◌, ◌<◌, ◌^◌, ◌+◌, ℕ, zero, suc, List, [], ◌∷◌, ◌++◌, refl, sym}
use Rattle.std.proofs.Common.{ap, subst, Bool, true, false, Option, Some, None, Result, Ok, Err}
use Rattle.std.proofs.Common.{arith, get_or, length, take}
use Rattle.std.specs.Prelude.{All, IfOk, option_map, nat_eq, ◌==◌, ◌||◌, Vec, unwrap_or}
use Rattle.std.specs.List.{AllByRecursion, list_any}
use Rattle.std.specs.declared.alloc.Global.{Global}
use Rattle.std.proofs.lemmas.Bool.{eqb-true}
use Rattle.std.proofs.lemmas.List.{take_more}
use Rattle.std.proofs.lemmas.List.Elements.{recursion_from_All}
use Rattle.histories.specs.declared.histories.Histories.{Histories}
use Rattle.histories.specs.declared.log.Did.{Did}
use Rattle.inspector_script.specs.Scripts.{IsScript, ScriptValue}
use Rattle.run_parts.specs.Ports.{ArePlaced, HavePlaces, is_port, log_of, place_in}
use Rattle.log_audit.specs.Walking.{IsWalked}
use Rattle.log_audit.specs.Judged.{AllOnlyOnes, AreJudgedAll, ArePortsWalked, IsLogWalkedWith}
use Rattle.log_audit.specs.Judged.{IsPortWalked, IsWalkable, IsWalkedAll}
use Rattle.log_audit.specs.PortWalks.{IsWalkedWith}
use Rattle.log_audit.specs.Stays.{known_in}
use Rattle.log_audit.specs.declared.judging.PortKinds.{PortKinds}
use Rattle.port_audit.specs.declared.kinds.KindAt.{KindAt}
use Rattle.log_audit.proofs.PortLogs.{KindsLaw, TellsLaw, WalksLaw, WordsLaw, judged, walkable}

-- ---- places

placed_from : (script : ScriptValue) (f : ℕ → ℕ) (place : ℕ) (ps : List ℕ) →
    ArePlaced script f place ps → (i : ℕ) → i < length ps →
    (f (get_or ps i 0) ≡ place + i) × (is_port script (get_or ps i 0) ≡ true)
placed_from script f place [] placed i within = absurd (omega (arith, within))
placed_from script f place (p ∷ ps) placed zero within =
    (placed.0 ∙ omega arith, placed.1)
placed_from script f place (p ∷ ps) placed (suc i) within =
    let less : i < length ps = omega arith in
    let more = placed_from script f (place + 1) ps placed.2 i less in
    (more.0 ∙ omega arith, more.1)

pub placed_at : (script : ScriptValue) → HavePlaces script → (i : ℕ) → i < length script.ports →
    (place_in (get_or script.ports i 0) script.ports ≡ i)
    × (is_port script (get_or script.ports i 0) ≡ true)
placed_at script places i within =
    let at = placed_from script (λ p. place_in p script.ports) 0 script.ports places.placed i within
    in (at.0 ∙ omega arith, at.1)

-- ---- one log

logged_by : (script : ScriptValue) (h : Histories) (place port : ℕ) (kinds : List KindAt)
    (o : Option (List Did)) → log_of port h.logs ≡ o →
    IsLogWalkedWith (known_in h.entries) script place port o (Some kinds) →
    (dids : List Did) × (log_of port h.logs ≡ Some dids)
    × IsWalkedWith (known_in h.entries) script place port dids (Some kinds)
logged_by script h place port kinds None log walked = absurd walked
logged_by script h place port kinds (Some dids) log walked = (dids, log, walked)

pub port_walked : (script : ScriptValue) (h : Histories) (place port : ℕ) (k : PortKinds) →
    place_in port script.ports ≡ place → k.port ≡ port →
    IsLogWalkedWith (known_in h.entries) script place port (log_of port h.logs)
    (Some k.kinds.items) → IsPortWalked script h port k
port_walked script h place port k at is walked =
    let one = logged_by script h place port k.kinds.items (log_of port h.logs) refl walked in
    record {
      is = is;
      dids = one.0;
      log = one.1;
      walked = subst (λ n. IsWalkedWith (known_in h.entries) script n port one.0
          (Some k.kinds.items)) (sym at) one.2;
    }

stuck_by : (script : ScriptValue) (h : Histories) (place port : ℕ) (o : Option (List Did)) →
    log_of port h.logs ≡ o → IsLogWalkedWith (known_in h.entries) script place port o None →
    (dids : List Did) → log_of port h.logs ≡ Some dids →
    IsWalked (known_in h.entries) script place port dids → ⊥
stuck_by script h place port None log stuck dids is walks =
    let wrong : None ≡ Some dids = sym log ∙ is in cc
stuck_by script h place port (Some others) log stuck dids is walks =
    let same : Some others ≡ Some dids = sym log ∙ is in
    stuck (subst (IsWalked (known_in h.entries) script place port)
    (sym (ap (λ (o : Option (List Did)). unwrap_or o others) same)) walks)

pub port_stuck : (script : ScriptValue) (h : Histories) (place port : ℕ) →
    place_in port script.ports ≡ place → is_port script port ≡ true →
    IsLogWalkedWith (known_in h.entries) script place port (log_of port h.logs) None →
    ((p : ℕ) → is_port script p ≡ true → IsWalkable script h p) → ⊥
port_stuck script h place port at among stuck all =
    let one = all port among in
    stuck_by script h place port (log_of port h.logs) refl stuck one.dids one.log
    (subst (λ n. IsWalked (known_in h.entries) script n port one.dids) at one.walks)

-- ---- all logs

pub walked_push : (script : ScriptValue) (h : Histories) (ps : List ℕ) (ks : List PortKinds) (p : ℕ)
    (k : PortKinds) → ArePortsWalked script h ps ks → IsPortWalked script h p k →
    ArePortsWalked script h (ps ++ p ∷ []) (ks ++ k ∷ [])
walked_push script h [] [] p k all one = (one, tt)
walked_push script h [] (j ∷ ks) p k all one = absurd all
walked_push script h (q ∷ ps) [] p k all one = absurd all
walked_push script h (q ∷ ps) (j ∷ ks) p k all one =
    (all.0, walked_push script h ps ks p k all.1 one)

pub walked_on : (script : ScriptValue) (h : Histories) (i : ℕ) (ks : List PortKinds)
    (k : PortKinds) → HavePlaces script → i < length script.ports →
    k.port ≡ get_or script.ports i 0 →
    IsLogWalkedWith (known_in h.entries) script i (get_or script.ports i 0)
    (log_of (get_or script.ports i 0) h.logs) (Some k.kinds.items) →
    ArePortsWalked script h (take i script.ports) ks →
    ArePortsWalked script h (take (i + 1) script.ports) (ks ++ k ∷ [])
walked_on script h i ks k places within is walked all =
    let at = placed_at script places i within in
    subst (λ ps. ArePortsWalked script h ps (ks ++ k ∷ []))
    (sym (take_more script.ports i 0 within))
    (walked_push script h (take i script.ports) ks (get_or script.ports i 0) k all
    (port_walked script h i (get_or script.ports i 0) k at.0 is walked))

pub walked_stopped : (script : ScriptValue) (h : Histories) (i : ℕ) → HavePlaces script →
    i < length script.ports →
    IsLogWalkedWith (known_in h.entries) script i (get_or script.ports i 0)
    (log_of (get_or script.ports i 0) h.logs) None → IsWalkedAll script h None
walked_stopped script h i places within stuck =
    let at = placed_at script places i within in
    port_stuck script h i (get_or script.ports i 0) at.0 at.1 stuck

-- ---- judged

fits_by : (port p : ℕ) (ps : List ℕ) (b : Bool) → (port == p) ≡ b → p < 2 ^ 32 →
    (list_any (nat_eq port) ps ≡ true → port < 2 ^ 32) →
    (b || list_any (nat_eq port) ps) ≡ true → port < 2 ^ 32
fits_by port p ps true same fit more among =
    subst (λ q. q < 2 ^ 32) (sym (eqb-true port p same)) fit
fits_by port p ps false same fit more among = more among

port_fits : (port : ℕ) (ps : List ℕ) → AllByRecursion (λ p. p < 2 ^ 32) ps →
    list_any (nat_eq port) ps ≡ true → port < 2 ^ 32
port_fits port [] fit among = let wrong : false ≡ true = among in absurd cc
port_fits port (p ∷ ps) fit among =
    fits_by port p ps (port == p) refl fit.0 (port_fits port ps fit.1) among

all_ports : (script : ScriptValue) (f : ℕ → ℕ) (place : ℕ) (ps : List ℕ) →
    ArePlaced script f place ps → AllByRecursion (λ p. p < 2 ^ 32) ps →
    AllByRecursion (λ p. (is_port script p ≡ true) × (p < 2 ^ 32)) ps
all_ports script f place [] placed fit = tt
all_ports script f place (p ∷ ps) placed fit =
    ((placed.1, fit.0), all_ports script f (place + 1) ps placed.2 fit.1)

pub judgement : WordsLaw → TellsLaw → WalksLaw → KindsLaw → (script : ScriptValue)
    (h : Histories) → IsScript script → HavePlaces script → All (λ p. p < 2 ^ 32) script.ports →
    AllOnlyOnes h.entries → {E : Type 0} (r : Result (Option (Vec PortKinds Global)) E) →
    IfOk r (λ kinds. IsWalkedAll script h
    (option_map (λ (ks : Vec PortKinds Global). ks.items) kinds)) →
    IfOk r (λ kinds. AreJudgedAll script h
    (option_map (λ (ks : Vec PortKinds Global). ks.items) kinds))
judgement words tells walks kinds script h is places fit ones {E} (Ok None) stops =
    λ notes have. stops (λ port among. walkable script h is walks ones notes have port
    (port_fits port script.ports (recursion_from_All (λ p. p < 2 ^ 32) script.ports fit) among)
    among)
judgement words tells walks kinds script h is places fit ones {E} (Ok (Some ks)) walked =
    judged script h is words tells kinds ones
    (all_ports script (λ p. place_in p script.ports) 0 script.ports places.placed
    (recursion_from_All (λ p. p < 2 ^ 32) script.ports fit)) ks.items walked
judgement words tells walks kinds script h is places fit ones {E} (Err e) walked = tt

-- ---- the same, of ports that are the script's

-- the log of the port at this place is walked so
abbrev pub IsWalkedAt : ScriptValue → Histories → List ℕ → ℕ → Option (Vec KindAt Global) → Type 0
IsWalkedAt script h ports i kinds =
    IsLogWalkedWith (known_in h.entries) script i (get_or ports i 0)
    (log_of (get_or ports i 0) h.logs)
    (option_map (λ (ks : Vec KindAt Global). ks.items) kinds)

pub stopped_in : (script : ScriptValue) (h : Histories) (ports : List ℕ) (i : ℕ) →
    ports ≡ script.ports → HavePlaces script → i < length ports →
    IsWalkedAt script h ports i None → IsWalkedAll script h None
stopped_in script h ports i same places =
    subst (λ ps. i < length ps → IsWalkedAt script h ps i None → IsWalkedAll script h None)
    (sym same)
    (walked_stopped script h i places)

pub on_in : (script : ScriptValue) (h : Histories) (ports : List ℕ) (i : ℕ)
    (ks new : List PortKinds) (k : PortKinds) → ports ≡ script.ports → HavePlaces script →
    new ≡ ks ++ k ∷ [] →
    i < length ports → k.port ≡ get_or ports i 0 →
    IsWalkedAt script h ports i (Some k.kinds) →
    ArePortsWalked script h (take i script.ports) ks →
    ArePortsWalked script h (take (i + 1) script.ports) new
on_in script h ports i ks new k same places pushed =
    subst (λ ps. i < length ps → k.port ≡ get_or ps i 0 →
    IsWalkedAt script h ps i (Some k.kinds) →
    ArePortsWalked script h (take i script.ports) ks →
    ArePortsWalked script h (take (i + 1) script.ports) new) (sym same)
    (λ within is walked all. subst (ArePortsWalked script h (take (i + 1) script.ports))
    (sym pushed) (walked_on script h i ks k places within is walked all))
