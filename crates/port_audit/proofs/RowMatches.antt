-- Rows that are met by what entries bring.
use Rattle.std.proofs.Common.{◌≡◌, ℕ, List, [], ◌∷◌, ◌++◌, Option, None}
use Rattle.std.proofs.Common.{false, refl, sym, ap, ◌∙◌, subst, inl, inr, append_assoc}
use Rattle.std.proofs.Common.{append-nil}
use Rattle.std.proofs.Common.{◌↔◌, true≢false}
use Rattle.std.specs.Prelude.{◌==◌}
use Rattle.std.specs.BTreeMap.{is_at}
use Rattle.std.specs.Ordering.{nat_cmp}
use Rattle.std.proofs.lemmas.Bool.{cases_Bool, eq-eqb, eqb-true}
use Rattle.std.proofs.lemmas.List.{append_cancel_left}
use Rattle.queue_core.specs.State.{Bound}
use Rattle.queue_core.specs.Step.{step}
use Rattle.histories.specs.declared.entry.Entry.{Entry}
use Rattle.histories.specs.History.{history, replay, replay_from}
use Rattle.port_audit.specs.declared.dealing.Side.{Side}
use Rattle.port_audit.specs.Dealing.{RowMap, row_at, AreKept, Takes, told_of, AreDealt}
use Rattle.port_audit.specs.Dealing.{side}
use Rattle.port_audit.specs.Dealing.{brought_from, AreMet, row_in}
use Rattle.histories.specs.NumberKeys.{at_own, not_of}
use Rattle.histories.specs.QueueHistories.{own_last, own_within, others_last}
use Rattle.port_audit.proofs.Rows.{other_port, other_queue, take_kept}

brought_on : {T : Type 0} (news : ℕ → Option Bound → Entry → List T) (p : ℕ) (q : Option Bound)
    (es fs : List Entry) → brought_from news p q (es ++ fs)
    ≡ brought_from news p q es ++ brought_from news p (replay_from q es) fs
brought_on news p q [] fs = refl
brought_on news p q (e ∷ es) fs =
    ap (λ xs. news p q e ++ xs) (brought_on news p (step q e.event).state es fs)
    ∙ sym (append_assoc (news p q e) (brought_from news p (step q e.event).state es)
    (brought_from news p (replay_from (step q e.event).state es) fs))

-- what is told is brought so far, or is in the rows
pub record IsTold {T : Type 0} (ports : List ℕ) (told : ℕ → ℕ → List T)
    (news : ℕ → Option Bound → Entry → List T) (rows : RowMap T) (before : List Entry)
    : Type 0 where
  pub rest : (p queue : ℕ) → told_of ports told p queue
      ≡ brought_from news p None (history queue before) ++ row_at rows (side p queue)
  pub kept : AreKept rows

module _ {T : Type 0} (ports : List ℕ) (told : ℕ → ℕ → List T)
    (news : ℕ → Option Bound → Entry → List T) where
  pub told_begun : (rows : RowMap T) → AreDealt ports told rows → IsTold ports told news rows []
  told_begun rows dealt = record {
    rest = λ p queue. sym (dealt.are p queue);
    kept = dealt.kept;
  }

  -- all is brought exactly where no row is left
  pub told_ends : (rows : RowMap T) (es : List Entry) → IsTold ports told news rows es →
      ((s : Side) → row_at rows s ≡ []) ↔ AreMet ports told news es
  told_ends rows es is = (
    λ none p queue. is.rest p queue
        ∙ ap (λ xs. brought_from news p None (history queue es) ++ xs) (none (side p queue))
        ∙ append-nil (brought_from news p None (history queue es)),
    λ met s. append_cancel_left (brought_from news s.port None (history s.queue es))
        (row_at rows s) []
        (sym (is.rest s.port s.queue) ∙ met s.port s.queue
        ∙ sym (append-nil (brought_from news s.port None (history s.queue es)))),
  )

  module _ (before : List Entry) (e : Entry) where
    abbrev pub h : List Entry
    h = history e.queue before

    -- at its own queue an entry brings its news
    own_brought : (p : ℕ) (xs : List T) → news p (replay h) e ≡ xs →
        brought_from news p None (history e.queue (before ++ e ∷ []))
        ≡ brought_from news p None h ++ xs
    own_brought p xs are =
        ap (brought_from news p None) (own_last before e)
        ∙ brought_on news p None h (e ∷ [])
        ∙ ap (λ ys. brought_from news p None h ++ ys) (append-nil (news p (replay h) e) ∙ are)

    other_brought : (p queue : ℕ) → is_at (nat_cmp e.queue) queue ≡ false →
        brought_from news p None (history queue (before ++ e ∷ []))
        ≡ brought_from news p None (history queue before)
    other_brought p queue other =
        ap (brought_from news p None)
        (others_last before e queue (not_of e.queue queue other))

    -- an entry without news
    pub told_same : (rows : RowMap T) → IsTold ports told news rows before →
        ((p : ℕ) → news p (replay h) e ≡ []) →
        IsTold ports told news rows (before ++ e ∷ [])
    told_same rows is none = record {
      rest = λ p queue. elim (cases_Bool (is_at (nat_cmp e.queue) queue)) [
        | inl here ↦ subst (λ n. told_of ports told p n
            ≡ brought_from news p None (history n (before ++ e ∷ [])) ++ row_at rows (side p n))
            (at_own e.queue queue here)
            (is.rest p e.queue ∙ ap (λ xs. xs ++ row_at rows (side p e.queue))
            (sym (own_brought p [] (none p) ∙ append-nil (brought_from news p None h))))
        | inr other ↦ is.rest p queue ∙ ap (λ xs. xs ++ row_at rows (side p queue))
            (sym (other_brought p queue other))
      ];
      kept = is.kept;
    }

    module _ (port : ℕ) (x : T) (own : news port (replay h) e ≡ x ∷ []) where
      -- an entry with news, which are the first of their row
      pub told_next : (old new : RowMap T) → IsTold ports told news old before →
          ((p : ℕ) → (port ≡ p → ⊥) → news p (replay h) e ≡ []) →
          Takes (side port e.queue) x old new →
          IsTold ports told news new (before ++ e ∷ [])
      told_next old new is others takes = record {
        rest = λ p queue. elim (cases_Bool (is_at (nat_cmp e.queue) queue)) [
          | inl here ↦ subst (λ n. told_of ports told p n
              ≡ brought_from news p None (history n (before ++ e ∷ [])) ++ row_at new (side p n))
              (at_own e.queue queue here) (at_queue p)
          | inr other ↦ is.rest p queue
              ∙ ap (λ xs. xs ++ row_at old (side p queue)) (sym (other_brought p queue other))
              ∙ ap (λ xs. brought_from news p None (history queue (before ++ e ∷ [])) ++ xs)
              (sym (ap row_in (takes.others (side p queue) (other_queue (side port e.queue)
              (side p queue) (λ same. true≢false
              (sym (eq-eqb e.queue queue same) ∙ not_of e.queue queue other))))))
        ];
        kept = take_kept (side port e.queue) x old new takes is.kept;
      }
        where
          at_port : told_of ports told port e.queue
              ≡ brought_from news port None (history e.queue (before ++ e ∷ []))
              ++ row_at new (side port e.queue)
          at_port =
              is.rest port e.queue
              ∙ ap (λ xs. brought_from news port None h ++ xs) takes.own
              ∙ sym (append_assoc (brought_from news port None h) (x ∷ [])
              (row_at new (side port e.queue)))
              ∙ ap (λ xs. xs ++ row_at new (side port e.queue))
              (sym (own_brought port (x ∷ []) own))

          at_queue : (p : ℕ) → told_of ports told p e.queue
              ≡ brought_from news p None (history e.queue (before ++ e ∷ []))
              ++ row_at new (side p e.queue)
          at_queue p = elim (cases_Bool (port == p)) [
            | inl same ↦ subst (λ n. told_of ports told n e.queue
                ≡ brought_from news n None (history e.queue (before ++ e ∷ []))
                ++ row_at new (side n e.queue)) (eqb-true port p same) at_port
            | inr other ↦ (let differ : port ≡ p → ⊥ =
                λ same. true≢false (sym (eq-eqb port p same) ∙ other) in
                is.rest p e.queue
                ∙ ap (λ xs. xs ++ row_at old (side p e.queue))
                (sym (own_brought p [] (others p differ)
                ∙ append-nil (brought_from news p None h)))
                ∙ ap (λ xs. brought_from news p None (history e.queue (before ++ e ∷ [])) ++ xs)
                (sym (ap row_in (takes.others (side p e.queue)
                (other_port (side port e.queue) (side p e.queue) differ)))))
          ]

      -- news that aren't the first of their row
      pub told_breaks : (old : RowMap T) (others : List Entry) →
          IsTold ports told news old before →
          ((xs : List T) → row_at old (side port e.queue) ≡ x ∷ xs → ⊥) →
          AreMet ports told news (before ++ e ∷ others) → ⊥
      told_breaks old others is differs met =
          let more = brought_from news port (step (replay h) e.event).state
          (history e.queue others) in
          differs more (append_cancel_left (brought_from news port None h)
          (row_at old (side port e.queue)) (x ∷ more)
          (sym (is.rest port e.queue) ∙ met port e.queue
          ∙ ap (brought_from news port None)
          (own_within e.queue before others e (eq-eqb e.queue e.queue refl))
          ∙ brought_on news port None h (e ∷ history e.queue others)
          ∙ ap (λ xs. brought_from news port None h ++ (xs ++ more)) own))
