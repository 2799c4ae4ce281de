mod DiskLists
