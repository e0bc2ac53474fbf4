-- The worst run written: what the call answers and leaves. Inside: the words of private contracts.
pub mod Writing
pub mod Inside
