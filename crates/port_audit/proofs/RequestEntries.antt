-- An entry that is a request.
use Rattle.std.proofs.Common.{◌≡◌, ℕ, [], ◌∷◌, refl, sym, ap, ◌∙◌, cond}
use Rattle.std.proofs.lemmas.Bool.{eq-eqb, ne_eqb}
use Rattle.nfqa_msgs.specs.declared.request.Request.{Request}
use Rattle.queue_core.specs.declared.event.Event.TheVariants.{Ask}
use Rattle.histories.specs.declared.entry.Entry.{Entry}
use Rattle.run_parts.specs.Requests.{Plea, pleas_of, pleas_by, errno_in}

-- the request of an entry
abbrev pub plea_in : ℕ → Request → Entry → Plea
plea_in call request e =
    record { call = call; request = request; errno = errno_in e.reply }

module _ (e : Entry) (port call : ℕ) (request : Request) (event : e.event ≡ Ask port call request)
  where
    pub own_plea : pleas_of port e ≡ plea_in call request e ∷ []
    own_plea = ap (λ v. pleas_by port v e.reply) event
        ∙ ap (λ b. cond b (plea_in call request e ∷ []) []) (eq-eqb port port refl)

    pub other_pleas : (p : ℕ) → (port ≡ p → ⊥) → pleas_of p e ≡ []
    other_pleas p differ = ap (λ v. pleas_by p v e.reply) event
        ∙ ap (λ b. cond b (plea_in call request e ∷ []) [])
        (ne_eqb p port (λ same. differ (sym same)))
