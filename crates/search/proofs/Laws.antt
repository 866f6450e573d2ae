-- Above: numbers one above what they mean. Sets: flags and words. Derive: what D1 to D3 give at a level or above. Grow: words that grow. Chain: the walk along a pair's delegations.
-- Walk: one pass. Store: a row put into the levels. Room: what can still rise. Round: one pass of a round. Complete: a search that is done.
-- Answer: what its levels say. Lent: what is lent to a search is ready.
pub mod Above
pub mod Sets
pub mod Derive
pub mod Grow
pub mod Chain
pub mod Walk
pub mod Store
pub mod Room
pub mod Round
pub mod Complete
pub mod Answer
pub mod Lent
