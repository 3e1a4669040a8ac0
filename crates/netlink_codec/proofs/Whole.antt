-- The test for a whole message or attribute, and the three reasons why it fails.
use Rattle.std.proofs.Common.{◌≡◌, ℕ, ◌≤◌, true, false, refl, arith, inl, inr, ◌⊎◌}
use Rattle.std.proofs.lemmas.Bool.{le-leb, leb-true, and_parts, cases_Bool, cases_lt}
use Rattle.netlink_codec.specs.Messages.{is_whole, IsNotWhole}

module _ (header total remaining : ℕ) where
  -- the test, from its three parts
  pub is_whole-true : header ≤ remaining → header ≤ total → total ≤ remaining →
      is_whole header total remaining ≡ true
  is_whole-true long least most =
      rw (le-leb header remaining long, le-leb header total least, le-leb total remaining most) refl

  -- what the test tells
  pub record Limits : Type 0 where
    pub long : header ≤ remaining
    pub least : header ≤ total
    pub most : total ≤ remaining

  pub limits : is_whole header total remaining ≡ true → Limits
  limits stands =
      let parts = and_parts _ _ stands in
      let ends = and_parts _ _ parts.1 in
      record {
        long = leb-true _ _ parts.0;
        least = leb-true _ _ ends.0;
        most = leb-true _ _ ends.1;
      }

  -- the test fails for each of the three reasons
  pub is_whole-false : IsNotWhole header total remaining → is_whole header total remaining ≡ false
  is_whole-false missing =
      elim (cases_Bool (is_whole header total remaining)) [
        | inr fails ↦ fails
        | inl stands ↦
            let parts = limits stands in
            elim missing [
              | inl short ↦ absurd (omega arith)
              | inr tells ↦ elim tells
                  [ inl small ↦ absurd (omega arith) | inr cut ↦ absurd (omega arith) ]
            ]
      ]

  -- the three parts hold, or one of the three reasons does
  pub whole_or_not : Limits ⊎ IsNotWhole header total remaining
  whole_or_not =
      elim (cases_lt remaining header) [
        | inl short ↦ inr (inl short)
        | inr long ↦ elim (cases_lt total header) [
          | inl small ↦ inr (inr (inl small))
          | inr least ↦ elim (cases_lt remaining total) [
            | inl cut ↦ inr (inr (inr cut))
            | inr most ↦ inl (record { long = long; least = least; most = most })
          ]
        ]
      ]

  -- where the test fails, one of the three reasons holds
  pub why_not_whole : is_whole header total remaining ≡ false → IsNotWhole header total remaining
  why_not_whole fails =
      elim whole_or_not [
        | inl parts ↦
            let stands = is_whole-true parts.long parts.least parts.most in absurd cc
        | inr missing ↦ missing
      ]
