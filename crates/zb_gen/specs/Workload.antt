-- A workload: the lines of requests that are drawn from a number.
use Rattle.std.specs.Prelude.{ℕ, zero, suc, ◌+◌, ◌*◌, ◌/◌, ◌%◌, ◌^◌, ◌==◌, List, [], ◌++◌, codes, if◌then◌else◌}
use Rattle.std.specs.Fmt.{decimal}

-- the state behind a state of the generator, a linear congruential one (own)
abbrev pub next_state : ℕ → ℕ
next_state x = (x * 6364136223846793005 + 1442695040888963407) % 2 ^ 64

-- what is drawn at a state (own)
abbrev pub draw : ℕ → ℕ
draw x = x / 2 ^ 33

-- the line that asks for an instance with this number as its variable (own)
abbrev pub create_request : ℕ → List ℕ
create_request n = codes "{\"op\":\"create\",\"process\":\"w\",\"variables\":{\"n\":" ++ (decimal n ++ codes "}}\n")

-- the line that publishes a message with this number in its correlation key (own)
abbrev pub publish_request : ℕ → List ℕ
publish_request n = codes "{\"op\":\"publish\",\"name\":\"m\",\"correlationKey\":\"k-" ++ (decimal n ++ codes "\",\"timeToLive\":2000}\n")

-- the line that moves the clock on by this number (own)
abbrev pub advance_request : ℕ → List ℕ
advance_request n = codes "{\"op\":\"advance\",\"ms\":" ++ (decimal n ++ codes "}\n")

-- the line that asks for what is due (own)
abbrev pub tick_request : List ℕ
tick_request = codes "{\"op\":\"tick\"}\n"

-- the line that asks for jobs (own)
abbrev pub activate_request : List ℕ
activate_request = codes "{\"op\":\"activate\",\"type\":\"pay\",\"worker\":\"w\",\"timeout\":1000,\"max\":10}\n"

-- the line of a request, by what was drawn for its kind and for its number (own)
abbrev pub request_drawn : (kind number : ℕ) → List ℕ
request_drawn kind number =
    if kind % 5 == 0 then create_request (number % 8)
    else (if kind % 5 == 1 then publish_request (number % 100)
    else (if kind % 5 == 2 then advance_request (number % 1000)
    else (if kind % 5 == 3 then tick_request else activate_request)))

-- the line of the request that is drawn behind a state, by two draws (own)
unfoldable pub request_behind : ℕ → List ℕ
request_behind x = request_drawn (draw (next_state x)) (draw (next_state (next_state x)))

-- the state behind so many requests (own)
unfoldable pub state_behind : (number requests : ℕ) → ℕ
state_behind number zero = number
state_behind number (suc n) = next_state (next_state (state_behind number n))

-- so many requests (own)
unfoldable pub requests_drawn : (number requests : ℕ) → List ℕ
requests_drawn number zero = []
requests_drawn number (suc n) = requests_drawn number n ++ request_behind (state_behind number n)

-- the line that deploys the model that the requests are for (own)
unfoldable pub deploy_request : List ℕ
deploy_request = codes "{\"op\":\"deploy\",\"model\":{\"process\":\"w\",\"nodes\":[{\"id\":\"s\",\"kind\":\"startEvent\"},{\"id\":\"x\",\"kind\":\"exclusiveGateway\",\"default\":\"b\"},{\"id\":\"t\",\"kind\":\"serviceTask\",\"type\":\"pay\"},{\"id\":\"c\",\"kind\":\"intermediateCatchEvent\",\"timerEventDefinition\":{\"timeDuration\":\"PT1S\"}},{\"id\":\"e\",\"kind\":\"endEvent\"}],\"flows\":[{\"id\":\"f\",\"sourceRef\":\"s\",\"targetRef\":\"x\"},{\"id\":\"a\",\"sourceRef\":\"x\",\"targetRef\":\"t\",\"conditionExpression\":\"=n < 4\"},{\"id\":\"b\",\"sourceRef\":\"x\",\"targetRef\":\"c\"},{\"id\":\"g\",\"sourceRef\":\"t\",\"targetRef\":\"e\"},{\"id\":\"h\",\"sourceRef\":\"c\",\"targetRef\":\"e\"}]}}\n"

-- a workload of so many requests behind the first one, drawn from a number (own)
abbrev pub workload : (number requests : ℕ) → List ℕ
workload number requests = deploy_request ++ requests_drawn number requests
