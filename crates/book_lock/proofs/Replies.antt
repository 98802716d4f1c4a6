-- Which replies each call on a book has.
use Rattle.std.proofs.Common.{◌≡◌, ℕ, refl}
use Rattle.cover_book.specs.Model.{BookModel}
use Rattle.cover_book.specs.Steps.{BookStep}
use Rattle.cover_book.specs.declared.calls.Call.TheVariants.{Commit, Learn, Find, StateOf, LemmasFrom}
use Rattle.cover_book.specs.declared.calls.Reply.{Reply}
use Rattle.cover_book.specs.declared.calls.Reply.TheVariants.{Committed, Learned, Found, LiveState, Lemmas, Refused}
use Rattle.cover_book.specs.declared.refusal.BookRefusal.{BookRefusal}
use Rattle.cover_book.specs.declared.refusal.BookRefusal.TheVariants.{NotOpen, OtherState, UnknownLemma, BudgetSpent, LemmasFull, PointKept, Memory}
use Rattle.cover_book.specs.declared.refusal.Kids.{Kids}

pub commit_replies : (b b' : BookModel) (n : ℕ) (P : _) (r : Reply) → BookStep b (Commit n P) r b' → ((c : Kids) → r ≡ Committed c → ⊥) → ((e : BookRefusal) → r ≡ Refused e → ⊥) → ⊥
commit_replies b b' n P (Committed c) s x y = x c refl
commit_replies b b' n P (Learned i) s x y = s
commit_replies b b' n P Found s x y = s
commit_replies b b' n P (LiveState S) s x y = s
commit_replies b b' n P (Lemmas v) s x y = s
commit_replies b b' n P (Refused e) s x y = y e refl

pub learn_replies : (b b' : BookModel) (k : _) (r : Reply) → BookStep b (Learn k) r b' → ((i : ℕ) → r ≡ Learned i → ⊥) → ((e : BookRefusal) → r ≡ Refused e → ⊥) → ⊥
learn_replies b b' k (Committed c) s x y = s
learn_replies b b' k (Learned i) s x y = x i refl
learn_replies b b' k Found s x y = s
learn_replies b b' k (LiveState S) s x y = s
learn_replies b b' k (Lemmas v) s x y = s
learn_replies b b' k (Refused e) s x y = y e refl

pub find_replies : (b b' : BookModel) (n : ℕ) (p : _) (r : Reply) → BookStep b (Find n p) r b' → (r ≡ Found → ⊥) → ((e : BookRefusal) → r ≡ Refused e → ⊥) → ⊥
find_replies b b' n p (Committed c) s x y = s
find_replies b b' n p (Learned i) s x y = s
find_replies b b' n p Found s x y = x refl
find_replies b b' n p (LiveState S) s x y = s
find_replies b b' n p (Lemmas v) s x y = s
find_replies b b' n p (Refused e) s x y = y e refl

pub state_replies : (b b' : BookModel) (n : ℕ) (r : Reply) → BookStep b (StateOf n) r b' → ((S : _) → r ≡ LiveState S → ⊥) → ((e : BookRefusal) → r ≡ Refused e → ⊥) → ⊥
state_replies b b' n (Committed c) s x y = s
state_replies b b' n (Learned i) s x y = s
state_replies b b' n Found s x y = s
state_replies b b' n (LiveState S) s x y = x S refl
state_replies b b' n (Lemmas v) s x y = s
state_replies b b' n (Refused e) s x y = y e refl

pub lemma_replies : (b b' : BookModel) (n : ℕ) (r : Reply) → BookStep b (LemmasFrom n) r b' → ((v : _) → r ≡ Lemmas v → ⊥) → ((e : BookRefusal) → r ≡ Refused e → ⊥) → ⊥
lemma_replies b b' n (Committed c) s x y = s
lemma_replies b b' n (Learned i) s x y = s
lemma_replies b b' n Found s x y = s
lemma_replies b b' n (LiveState S) s x y = s
lemma_replies b b' n (Lemmas v) s x y = x v refl
lemma_replies b b' n (Refused e) s x y = y e refl

-- lemmas are refused where memory runs out, and nowhere else
pub lemmas_refused : (b b' : BookModel) (n : ℕ) (e : BookRefusal) → BookStep b (LemmasFrom n) (Refused e) b' → e ≡ Memory
lemmas_refused b b' n (NotOpen m) s = absurd s
lemmas_refused b b' n (OtherState S) s = absurd s
lemmas_refused b b' n (UnknownLemma i c) s = absurd s
lemmas_refused b b' n (BudgetSpent c) s = absurd s
lemmas_refused b b' n LemmasFull s = absurd s
lemmas_refused b b' n (PointKept p) s = absurd s
lemmas_refused b b' n Memory s = refl
