-- The customer's demands, for the block store: what holds of every call that writes or reads blocks, by its defined outcome (`write_outcome`, `read_outcome`). Bytes are below 256, as they come. Assumes nothing.
use Rattle.std.proofs.Common.{◌≡◌, refl, sym, ap, ap₂, ◌∙◌, subst, List, [], ◌∷◌, ◌++◌, append-nil, ℕ, zero, suc, ◌*◌, ◌≤◌, arith, length, take, drop, drop_of_length-le, take_at}
use lib.ListN.{length-map}
use Rattle.monomial.specs.Layout.{Below}
use Rattle.refusal.specs.Judgement.{Judged, OneOf}
use Rattle.polynomial.specs.Terms.{Term, terms, words, coefs}
use Rattle.polynomial.specs.Settings.{setting_of}
use Rattle.polynomial.specs.declared.setting.Setting.{Setting}
use Rattle.polynomial.proofs.TermLists.{terms-of}
use Rattle.block.specs.Block.{number_at, weight_number, weights_of, block_count, blocks_of, setting_in}
use Rattle.block.proofs.WeightLaws.{length-weights, weights-below, weights-positive, weights-back}
use Rattle.blocks.specs.Reading.{terms_in, read_refusal}
use Rattle.blocks.specs.Outcome.{answer_read, answer_written, write_refusal, WriteOutcome, write_stated, written_by, write_outcome, ReadOutcome, read_stated, read_by, read_outcome}
use Rattle.blocks.specs.Judgement.{write_conditions, read_conditions}
use Rattle.blocks.proofs.WriteLaws.{write-refused}
use Rattle.blocks.proofs.ReadLaws.{read-refused}
use Rattle.blocks.proofs.Counts.{long-blocks}
use Rattle.blocks.proofs.RoundTrip.{written_read}
use Rattle.blocks.proofs.Accepted.{accepted-written, accepted-blocks}
use Rattle.blocks.proofs.Judgements.{write-judged, write-numbers, read-judged, read-numbers}

written-number : (r : ℕ) (t : Setting) (us : List (Term ℕ)) (bytes : List ℕ) → r ≡ (written_by r t us bytes).answer.number
written-number zero t us bytes = refl
written-number (suc r) t us bytes = refl

read_number : (r : ℕ) (t : Setting) (us : List (Term ℕ)) (ow oc : List ℕ) → r ≡ (read_by r t us ow oc).answer.number
read_number zero t us ow oc = refl
read_number (suc r) t us ow oc = refl

-- ---- writing
module _ (t : Setting) (ws cs bytes : List ℕ) where
  abbrev pub wrote : WriteOutcome
  wrote = write_outcome t ws cs bytes

  number_is : write_refusal t ws cs (length bytes) ≡ wrote.answer.number
  number_is = written-number (write_refusal t ws cs (length bytes)) t (terms ws cs) bytes

  -- Demand 1: every call ends (its contract says so), with a result or a refusal under its stated condition and no other: each number comes under its condition, where no earlier one does.
  pub demand-1-write : Judged (write_conditions t ws cs (length bytes)) wrote.answer.number
  demand-1-write = subst (Judged (write_conditions t ws cs (length bytes))) number_is (write-judged t ws cs (length bytes))

  -- these numbers can come, and no other
  pub demand-1-write-numbers : OneOf (0 ∷ 1 ∷ 2 ∷ 3 ∷ 4 ∷ 5 ∷ 6 ∷ 8 ∷ 10 ∷ 11 ∷ 24 ∷ []) wrote.answer.number
  demand-1-write-numbers = subst (OneOf (0 ∷ 1 ∷ 2 ∷ 3 ∷ 4 ∷ 5 ∷ 6 ∷ 8 ∷ 10 ∷ 11 ∷ 24 ∷ [])) number_is (write-numbers t ws cs (length bytes))

  -- "Both change nothing on refusal", and the count is 0
  pub demand-1-write-unchanged : (wrote.answer.number ≡ 0 → ⊥) → ◌≡◌ {A = WriteOutcome} wrote (record { answer = record { number = wrote.answer.number; finished = 0; blocks = 0 }; bytes = bytes })
  demand-1-write-unchanged some =
      sym (write-refused (write_refusal t ws cs (length bytes)) t (terms ws cs) bytes (λ z. some (sym number_is ∙ z)))
      ∙ ap (λ (r : ℕ). record { answer = record { number = r; finished = 0; blocks = 0 }; bytes = bytes }) number_is

  -- what is written: all blocks, "and no byte past their result"
  module _ (done : wrote.answer.number ≡ 0) where
    pub none-refused : write_refusal t ws cs (length bytes) ≡ 0
    none-refused = number_is ∙ done

    pub demand-2-written : ◌≡◌ {A = WriteOutcome} wrote (record { answer = write_stated (answer_written (block_count (length (terms ws cs)))); bytes = blocks_of t (terms ws cs) ++ drop (length (blocks_of t (terms ws cs))) bytes })
    demand-2-written = ap (λ (r : ℕ). written_by r t (terms ws cs) bytes) none-refused

    -- the bytes that the answer counts are the blocks
    pub written-bytes : take (512 * wrote.answer.blocks) wrote.bytes ≡ blocks_of t (terms ws cs)
    written-bytes =
        let b = blocks_of t (terms ws cs) in
        ap (λ (w : WriteOutcome). take (512 * w.answer.blocks) w.bytes) demand-2-written
        ∙ take_at b (drop (length b) bytes) (512 * block_count (length (terms ws cs))) (long-blocks t (terms ws cs))

    -- Demand 2: "Stored blocks read back as the polynomial written". The blocks that were written are read as the same p, order, n and weights and the same terms; the rest of what is lent is not changed.
    pub demand-2-read-back : (ow oc : List ℕ) → length ow ≡ length oc → length ws ≤ length ow
        → ◌≡◌ {A = ReadOutcome} (read_outcome (take (512 * wrote.answer.blocks) wrote.bytes) ow oc) (record { answer = read_stated (answer_read t.p t.order t.n (weight_number t.weights) (length ws)); ws = ws ++ drop (length ws) ow; cs = cs ++ drop (length ws) oc })
    demand-2-read-back ow oc lent enough = ap (λ (l : List ℕ). read_outcome l ow oc) written-bytes ∙ written_read t ws cs ow oc (length bytes) none-refused lent enough

-- ---- reading
module _ (bytes ow oc : List ℕ) (u : Below 256 bytes) where
  abbrev pub got : ReadOutcome
  got = read_outcome bytes ow oc

  pub got_number : read_refusal bytes (length ow) (length oc) ≡ got.answer.number
  got_number = read_number (read_refusal bytes (length ow) (length oc)) (setting_in bytes) (terms_in bytes) ow oc

  -- Demand 1, as for writing
  pub demand-1-read : Judged (read_conditions bytes (length ow) (length oc)) got.answer.number
  demand-1-read = subst (Judged (read_conditions bytes (length ow) (length oc))) got_number (read-judged bytes (length ow) (length oc) u)

  pub demand-1-read-numbers : OneOf (0 ∷ 1 ∷ 2 ∷ 3 ∷ 4 ∷ 5 ∷ 6 ∷ 8 ∷ 10 ∷ 14 ∷ 15 ∷ 16 ∷ 24 ∷ []) got.answer.number
  demand-1-read-numbers = subst (OneOf (0 ∷ 1 ∷ 2 ∷ 3 ∷ 4 ∷ 5 ∷ 6 ∷ 8 ∷ 10 ∷ 14 ∷ 15 ∷ 16 ∷ 24 ∷ [])) got_number (read-numbers bytes (length ow) (length oc) u)

  pub demand-1-read-unchanged : (got.answer.number ≡ 0 → ⊥) → ◌≡◌ {A = ReadOutcome} got (record { answer = record { number = got.answer.number; finished = 0; p = 0; order = 0; n = 0; weights = 0; terms = 0 }; ws = ow; cs = oc })
  demand-1-read-unchanged some =
      sym (read-refused (read_refusal bytes (length ow) (length oc)) (setting_in bytes) (terms_in bytes) ow oc (λ z. some (sym got_number ∙ z)))
      ∙ ap (λ (r : ℕ). record { answer = record { number = r; finished = 0; p = 0; order = 0; n = 0; weights = 0; terms = 0 }; ws = ow; cs = oc }) got_number

  -- Demand 2: "blocks that are accepted are the ones that writing would make". What was read, written where as many bytes are lent, makes the same bytes.
  pub demand-2-accepted : got.answer.number ≡ 0 → (room : List ℕ) → length room ≡ length bytes
      → (write_outcome (setting_of got.answer.p got.answer.order got.answer.n (weights_of 6 got.answer.weights)) (take got.answer.terms got.ws) (take got.answer.terms got.cs) room).bytes ≡ bytes
  demand-2-accepted done room e =
      let none : read_refusal bytes (length ow) (length oc) ≡ 0 = got_number ∙ done in
      let t = setting_in bytes in
      let us = terms_in bytes in
      let again : ReadOutcome → List ℕ = λ r. (write_outcome (setting_of r.answer.p r.answer.order r.answer.n (weights_of 6 r.answer.weights)) (take r.answer.terms r.ws) (take r.answer.terms r.cs) room).bytes in
      let k = number_at 3 12 bytes in
      let ev : weights_of 6 (weight_number t.weights) ≡ t.weights = weights-back 6 (weights_of 6 k) (length-weights 6 k) (weights-below 6 k) (weights-positive 6 k) in
      let is : blocks_of t (terms (words us) (coefs us)) ≡ bytes = ap (blocks_of t) (terms-of us) ∙ sym (accepted-blocks bytes (length ow) (length oc) u none) in
      let stands : write_refusal t (words us) (coefs us) (length room) ≡ 0 = ap (write_refusal t (words us) (coefs us)) e ∙ accepted-written bytes (length ow) (length oc) none in
      ap (λ (r : ℕ). again (read_by r t us ow oc)) none
      ∙ (ap (λ (vs : List ℕ). (write_outcome (setting_of t.p t.order t.n vs) (take (length us) (words us ++ drop (length us) ow)) (take (length us) (coefs us ++ drop (length us) oc)) room).bytes) ev
      ∙ (ap₂ (λ (x y : List ℕ). (write_outcome t x y room).bytes) (take_at (words us) (drop (length us) ow) (length us) (length-map us (λ v. v.mono))) (take_at (coefs us) (drop (length us) oc) (length us) (length-map us (λ v. v.coef)))
      ∙ (ap (λ (r : ℕ). (written_by r t (terms (words us) (coefs us)) room).bytes) stands
      ∙ (ap (λ (l : List ℕ). l ++ drop (length l) room) is ∙ (ap (λ (l : List ℕ). bytes ++ l) (drop_of_length-le room {i = length bytes} (omega arith)) ∙ append-nil bytes)))))
