-- A workload, one request more at a time.
use Rattle.std.proofs.Common.{◌≡◌, ℕ, ◌+◌, ◌++◌, [], refl, add-one}
use Rattle.zb_gen.specs.Workload.{next_state, request_behind, state_behind, requests_drawn}

pub one_state : (number n : ℕ) → state_behind number (n + 1) ≡ next_state (next_state (state_behind number n))
unfolding state_behind
one_state number n = rw add-one refl

pub one_request : (number n : ℕ) → requests_drawn number (n + 1) ≡ requests_drawn number n ++ request_behind (state_behind number n)
unfolding requests_drawn
one_request number n = rw add-one refl

pub no_state : (number : ℕ) → state_behind number 0 ≡ number
unfolding state_behind
no_state number = refl

pub no_request : (number : ℕ) → requests_drawn number 0 ≡ []
unfolding requests_drawn
no_request number = refl
