-- A plane that is opened with a script's ports, mail and key is opened for it.
use Rattle.std.proofs.Common.{◌≡◌, ◌≢◌, ◌<◌, ℕ, List, [], ◌∷◌}
use Rattle.std.proofs.Common.{length, suc, ap, subst, sym, inl, inr}
use Rattle.std.proofs.Common.{Err, IfOk, Ok, Result, AllPairs, slice_index_or, arith}
use Rattle.hook_chain.specs.Rules.{RuleTables}
use Rattle.inspector_script.specs.Scripts.{IsScript, ScriptValue}
use Rattle.mailbox.specs.Roles.{AreDistinct, In}
use Rattle.packet_moves.specs.declared.setting.Setting.{Setting}
use Rattle.plane.specs.declared.opened.Opened.{Opened}
use Rattle.plane.specs.Opening.{IsOpened}
use Rattle.nfq_live.specs.Run.{IsOpenedFor, setting_for, tables_of}

not_there : (x : ℕ) (xs : List ℕ) →
    ((j d : ℕ) → j < length xs → x ≢ slice_index_or xs j d) → In x xs → ⊥
not_there x [] differ there = there
not_there x (y ∷ ys) differ (inl is) = differ 0 0 (omega arith) is
not_there x (y ∷ ys) differ (inr there) =
    not_there x ys (λ j d within. differ (suc j) d (omega (arith, within))) there

distinct : (xs : List ℕ) → AllPairs (λ p q. p ≢ q) xs → AreDistinct xs
distinct [] differ = tt
distinct (x ∷ xs) differ = (
  not_there x xs (λ j d within. differ 0 (suc j) d (omega arith) (omega (arith, within))),
  distinct xs
      (λ i j d less within. differ (suc i) (suc j) d (omega (arith, less)) (omega (arith, within))),
)

pub ports_are_distinct : (s : ScriptValue) (ports : List ℕ) → IsScript s → ports ≡ s.ports →
    AreDistinct ports
ports_are_distinct s ports is are = subst AreDistinct (sym are) (distinct s.ports is.ports_differ)

opened : (script : ScriptValue) (places : ℕ) (tables : RuleTables) (o : Opened) →
    IsOpened places script.ports (setting_for script tables) o.plane o.feeder o.ports o.gauge →
    IsOpenedFor script o
opened script places tables o is =
    subst (λ (n : ℕ). IsOpened n script.ports (setting_for script (tables_of o)) o.plane o.feeder
    o.ports o.gauge) (sym is.as_many)
    (subst (λ (t : RuleTables). IsOpened places script.ports (setting_for script t) o.plane
    o.feeder o.ports o.gauge) (ap (λ (s : Setting). s.tables) (sym is.setting)) is)

-- what a plane is opened with
abbrev with : RuleTables → ℕ → ℕ → Setting
with tables key mail = record { tables = tables; key = key; mail = mail }

pub opened_for : {E : Type 0} (script : ScriptValue) (places : ℕ) (tables : RuleTables)
    (ports : List ℕ) (key mail : ℕ) → ports ≡ script.ports → key ≡ script.key →
    mail ≡ script.mail → (r : Result Opened E) →
    IfOk r (λ o. IsOpened places ports (with tables key mail) o.plane o.feeder o.ports o.gauge) →
    IfOk r (IsOpenedFor script)
opened_for script places tables ports key mail is_p is_k is_m (Err e) is = tt
opened_for script places tables ports key mail is_p is_k is_m (Ok o) is =
    opened script places tables o
    (subst (λ (m : ℕ). IsOpened places script.ports (with tables script.key m) o.plane o.feeder
    o.ports o.gauge) is_m
    (subst (λ (k : ℕ). IsOpened places script.ports (with tables k mail) o.plane o.feeder o.ports
    o.gauge) is_k
    (subst (λ (ps : List ℕ). IsOpened places ps (with tables key mail) o.plane o.feeder o.ports
    o.gauge) is_p is)))

pub tables_are : {E : Type 0} (places : ℕ) (tables : RuleTables) (ports : List ℕ)
    (key mail : ℕ) (r : Result Opened E) →
    IfOk r (λ o. IsOpened places ports (with tables key mail) o.plane o.feeder o.ports o.gauge) →
    IfOk r (λ o. tables_of o ≡ tables)
tables_are places tables ports key mail (Err e) is = tt
tables_are places tables ports key mail (Ok o) is = ap (λ (s : Setting). s.tables) is.setting
