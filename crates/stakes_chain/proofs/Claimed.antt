-- The claims about the chain. Assumes nothing.
use Rattle.stakes_chain.specs.Claims.{ChainMeant, OneChain, OffChain, Claims}
use Rattle.stakes_chain.proofs.Chains.{chain_only, chain_found, found_chain, off_chain_lem}

chain_meant : ChainMeant
unfolding ChainMeant
chain_meant f is = (chain_found f is, found_chain f is)

one_chain_lem : OneChain
unfolding OneChain
one_chain_lem f is js h k = chain_only f h.chain k.chain

pub claimed : Claims
claimed = record { chain = chain_meant; one_chain = one_chain_lem; off_chain = unfold OffChain in off_chain_lem }
